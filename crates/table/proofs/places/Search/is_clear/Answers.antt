use Rattle.std.proofs.Common.{sym, ◌∙◌, arith}
use Rattle.std.proofs.lemmas.List.{at_drop_all}
use Rattle.table.specs.Places.{clear}
use Rattle.table.proofs.places.Search.is_clear.Goals as goal

pub returns : goal.returns
returns c =
    let sought = c.args.self.now in
    sym (at_drop_all (clear c.args.place sought.size) sought.rows.now c.loop-row.row-index (omega arith)) ∙ c.loop-row.invariant
