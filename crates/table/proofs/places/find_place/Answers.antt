use Rattle.std.proofs.Common.{sym, ◌∙◌, arith}
use Rattle.std.proofs.lemmas.List.{at_drop_all}
use Rattle.table.specs.Places.{lowest_of}
use Rattle.table.proofs.places.find_place.Goals as goal

pub returns : goal.returns
returns c =
    sym (at_drop_all (lowest_of c.args.limit c.args.rows.now c.args.size c.loop-row.best) c.args.rows.now c.loop-row.row-index (omega arith)) ∙ c.loop-row.invariant
