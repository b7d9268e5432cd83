use Rattle.std.proofs.Common.{◌≡◌, drop}
use Rattle.table.specs.Places.{clear}
use Rattle.table.proofs.places.Search.is_clear.Given as goal

abbrev pub invariant-loop-row : goal.invariant-loop-row
invariant-loop-row l = clear l.place l.self.size (drop l.row-index l.self.rows.now) ≡ clear l.place l.self.size l.self.rows.now
