use Rattle.std.proofs.Common.{◌≡◌, drop}
use Rattle.table.specs.Places.{lowest_of, lowest_place}
use Rattle.table.proofs.places.find_place.Given as goal

abbrev pub invariant-loop-row : goal.invariant-loop-row
invariant-loop-row l = lowest_of l.limit l.rows l.size l.best (drop l.row-index l.rows) ≡ lowest_place l.start l.limit l.rows l.size
