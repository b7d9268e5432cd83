-- The law of a new block's place.
--   place_for t n         the place that is answered for a block of n bytes
--   LowestPlace t n o    o is the lowest place with room for n bytes, or nothing where there is none
--   LowestPlaces         the place that is answered is the lowest, in a table whose live blocks lie in the working part
use Rattle.std.specs.Prelude.{◌≡◌, ℕ, ◌≤◌, false, Some, None, Option}
use Rattle.table.specs.Places.{lowest_place}
use Rattle.rows.specs.Rows.{block_free, place_of}
use Rattle.table.specs.Soundness.{RoomAt}
use Rattle.table.specs.Tables.{block_at}
use Rattle.table.specs.declared.table.Table.{Table}

abbrev pub place_for : Table → ℕ → Option ℕ
place_for t n = lowest_place t.fixed t.limit t.blocks n

abbrev pub LowestPlace : Table → ℕ → Option ℕ → Type 0
LowestPlace t n (Some p) = RoomAt t n p × ((q : ℕ) → RoomAt t n q → p ≤ q)
LowestPlace t n None = (q : ℕ) → RoomAt t n q → ⊥

abbrev pub LowestPlaces : Type 0
LowestPlaces = (t : Table) (n : ℕ) → ((b : ℕ) → block_free (block_at t b) ≡ false → t.fixed ≤ place_of (block_at t b)) → LowestPlace t n (place_for t n)
