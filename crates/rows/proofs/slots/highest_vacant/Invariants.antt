use Rattle.std.proofs.Common.{◌≡◌, take}
use Rattle.rows.specs.Slots.{highest}
use Rattle.rows.proofs.slots.highest_vacant.Given as goal

abbrev pub invariant-loop-index : goal.invariant-loop-index
invariant-loop-index g l = highest g.R.Slot.vacant (take l.index l.rows) ≡ highest g.R.Slot.vacant l.rows
