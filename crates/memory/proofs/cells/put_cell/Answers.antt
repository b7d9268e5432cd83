use Rattle.std.proofs.Common.{length, sym, ap, ◌∙◌, arith, length-take}
use lib.Seq.{take-set-lt}
use Rattle.std.proofs.lemmas.List.{set_past}
use Rattle.memory.specs.Faults.{own_fault}
use Rattle.memory.specs.Layouts.{most, first_bytes}
use Rattle.memory.proofs.Answering.{put_within, put_past}
use Rattle.memory.proofs.cells.put_cell.Goals as goal

pub bounds-cells-position : goal.bounds-cells-position
bounds-cells-position c = omega (arith, length-take most c.args.cells.now)

pub returns-then-position-size : goal.returns-then-position-size
returns-then-position-size c =
    let xs = c.args.cells.now in
    let p = c.args.position in
    record {
      answer = put_within (first_bytes xs) (own_fault (length (first_bytes xs))) p (omega arith);
      memory = take-set-lt most xs p c.args.byte (omega (arith, length-take most xs));
    }

pub returns-else-position-size : goal.returns-else-position-size
returns-else-position-size c =
    let xs = c.args.cells.now in
    let p = c.args.position in
    record {
      answer = put_past (first_bytes xs) (own_fault (length (first_bytes xs))) p _ (omega arith) (c.own.ensures ∙ ap (λ size. own_fault size p) c.cell_count-size.ensures);
      memory = sym (set_past (first_bytes xs) p c.args.byte (omega arith));
    }
