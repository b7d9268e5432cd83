-- When a block has the room already.
--   Slides h b a         the wanted bytes fit the block, and those shown are no longer than the way to its place
--   Widens h b a         the wanted bytes fit from where the handle starts
--   Reclaimable h b a    the spare bytes are there; or h is alone on its block b, and it slides, or it is counted and widens
use Rattle.std.specs.Prelude.{◌≡◌, ℕ, ◌+◌, ◌-◌, ◌≤◌, false, ◌⊎◌}
use Rattle.rows.specs.Rows.{kind_own}
use Rattle.rows.specs.declared.block.Block.{Block}
use Rattle.rows.specs.declared.handle.WritableHandle.{WritableHandle}
use Rattle.reserve.specs.Rules.{offset}

abbrev pub Slides : WritableHandle → Block → ℕ → Type 0
Slides h b a = (h.len + a ≤ b.size) × (h.len ≤ offset h b)

abbrev pub Widens : WritableHandle → Block → ℕ → Type 0
Widens h b a = (kind_own h.kind ≡ false) × (offset h b + h.len + a ≤ b.size)

abbrev pub Reclaimable : WritableHandle → Block → ℕ → Type 0
Reclaimable h b a = (a ≤ h.capacity - h.len) ⊎ ((b.count ≡ 1) × (Slides h b a ⊎ Widens h b a))
