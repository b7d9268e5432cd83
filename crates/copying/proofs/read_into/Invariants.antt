use Rattle.std.proofs.Common.{◌≡◌, take, drop}
use Rattle.copying.proofs.read_into.Given as goal

abbrev pub invariant-loop-i : goal.invariant-loop-i
invariant-loop-i g l = take l.i l.out ≡ take l.i (drop l.at (g.M.Memory.bytes l.mem))
