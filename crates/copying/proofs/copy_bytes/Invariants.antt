use Rattle.std.proofs.Common.{◌≡◌, length, drop}
use lib.Seq.{paste}
use Rattle.copying.proofs.copy_bytes.Given as goal

abbrev pub invariant-loop-i : goal.invariant-loop-i
invariant-loop-i g l =
    (length (g.M.Memory.bytes l.mem) ≡ length (g.M.Memory.bytes l.initial.mem))
    × (g.M.Memory.bytes l.mem ≡ paste (g.M.Memory.bytes l.initial.mem) l.to (drop l.from (g.M.Memory.bytes l.initial.mem)) l.i)
    × (g.M.Memory.fault l.mem ≡ g.M.Memory.fault l.initial.mem)
