use Rattle.std.proofs.Common.{◌≡◌, ◌≤◌, ◌++◌, drop, vec_items}
use Rattle.lines.specs.Lines.{lines_from, lines_of}
use Rattle.lines.proofs.line.find_lines.Given as goal

-- what is left of the text gives the lines that are still to come
abbrev pub invariant-loop-position : goal.invariant-loop-position
invariant-loop-position g l =
    (l.start ≤ l.position)
    × (vec_items l.lines ++ lines_from l.start l.position (drop l.position (g.M.Memory.bytes l.mem))
    ≡ lines_of (g.M.Memory.bytes l.mem))
