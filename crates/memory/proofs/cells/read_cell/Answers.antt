use Rattle.std.proofs.Common.{length, sym, ap, ◌∙◌, arith, length-take, get_or-take}
use Rattle.memory.specs.Faults.{own_fault}
use Rattle.memory.specs.Layouts.{most, first_bytes}
use Rattle.memory.proofs.Answering.{read_within, read_past}
use Rattle.memory.proofs.cells.read_cell.Goals as goal

pub bounds-cells-position : goal.bounds-cells-position
bounds-cells-position c = omega (arith, length-take most c.args.cells.now)

pub returns-then-position-size : goal.returns-then-position-size
returns-then-position-size c =
    let xs = c.args.cells.now in
    let p = c.args.position in
    read_within (first_bytes xs) (own_fault (length (first_bytes xs))) p _ (omega arith) (sym (get_or-take most xs p 0 (omega (arith, length-take most xs))))

pub returns-else-position-size : goal.returns-else-position-size
returns-else-position-size c =
    let xs = c.args.cells.now in
    let p = c.args.position in
    read_past (first_bytes xs) (own_fault (length (first_bytes xs))) p _ (omega arith) (c.own.ensures ∙ ap (λ size. own_fault size p) c.cell_count-size.ensures)
