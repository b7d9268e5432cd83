-- Each call on writable handles leaves a sound table.
use Rattle.std.proofs.Common.{◌≡◌, ℕ, ◌+◌, ◌-◌, ◌≤◌, true, ltb, leb, List, length, Ok, Err, Result, refl, ap, arith}
use Rattle.memory.specs.declared.fault.MemoryFault.{MemoryFault}
use Rattle.std.proofs.lemmas.Bool.{cond_both, ltb-true}
use Rattle.table.proofs.SoundSteps.{free_unblocked, sound_detach, sound_settle}
use Rattle.table.specs.Checks.{block_row_check, handle_row_check, memory_check, no_row, place_check, range_check}
use Rattle.rows.specs.Rows.{handle_free}
use Rattle.table.specs.Soundness.{Sound}
use Rattle.table.specs.Tables.{detach, handle_at, with_handle}
use Rattle.faults.specs.declared.Fault.{Fault}
use Rattle.rows.specs.declared.handle.HandleRow.TheVariants.{Writable}
use Rattle.rows.specs.declared.handle.WritableHandle.{WritableHandle}
use Rattle.table.specs.declared.table.Table.{Table}
use Rattle.reserve.proofs.HandlesSound.{over, owns_fits, sound_cut}
use Rattle.table.proofs.Passing.{block_row_passed, both_after, handle_row_passed, place_passed, range_passed, table_after}
use Rattle.reserve.proofs.RoomsSound.{Roomy, reclaim_sound, room_enough, room_sound}
use Rattle.writable.specs.Calls.{advance_of, cut_to, extend_of, extended, filled, fresh, fresh_block, from_of, make_of, reserve_of, row_made, slid_of, truncate_of, try_reclaim_of, with_capacity_of}
use Rattle.reserve.specs.Rooms.{room_of}
use Rattle.writable.specs.declared.calls.Made.{Made}
use Rattle.reserve.specs.declared.room.Room.{Room}

-- A new handle.

make_sound : (t : Table) (k n : ℕ) → Sound t → t.opened ≡ true → k ≤ n → Sound (make_of t k n).1
make_sound t k n s opened shows =
    table_after (λ r. Sound r.1) (handle_row_check t no_row) t _ (λ _. s) (λ i row.
    table_after (λ r. Sound r.1) (block_row_check t no_row) t _ (λ _. s) (λ b vacant.
    table_after (λ r. Sound r.1) (place_check t n no_row) t _ (λ _. s) (λ p found.
    let at = handle_row_passed t no_row s i row in
    let free = block_row_passed t no_row s b vacant in
    sound_settle t i b (fresh_block p n) (Writable (fresh b p n k)) s opened at.0 (free_unblocked (handle_at t i) at.1) free.1 refl (omega arith) (place_passed t no_row s n p found) refl refl
    (owns_fits t.fixed (fresh b p n k) (fresh_block p n) free.0 (record { shows = shows; from = omega arith; to = refl; single = refl; classed = omega arith })))))

row_made_sound : (r : Result Made Fault × Table) → Sound r.1 → Sound (row_made r).1
row_made_sound (Ok made, t) s = s
row_made_sound (Err e, t) s = s

filled_sound : (r : Result Made Fault × Table) (m xs : List ℕ) → Sound r.1 → Sound (filled r m xs).1
filled_sound (Ok made, t) m xs s = s
filled_sound (Err e, t) m xs s = s

pub with_capacity_sound : (t : Table) (n : ℕ) → Sound t → t.opened ≡ true → Sound (with_capacity_of t n).1
with_capacity_sound t n s opened = row_made_sound (make_of t 0 n) (make_sound t 0 n s opened (omega arith))

pub from_sound : (t : Table) (m : List ℕ) (f : ℕ → MemoryFault) (xs : List ℕ) → Sound t → t.opened ≡ true → Sound (from_of t m f xs).1
from_sound t m f xs s opened =
    both_after (λ r. Sound r.1) (memory_check t m f no_row) t m _ (λ _. s) (λ _ _.
    filled_sound (make_of t (length xs) (length xs)) m xs (make_sound t (length xs) (length xs) s opened (omega arith)))

-- Room behind a handle.

slid_sound : (r : Result Room Fault × Table × List ℕ) → Sound r.1 → Sound (slid_of r).1
slid_sound (Ok room, t, m) s = s
slid_sound (Err e, t, m) s = s

pub extended_sound : (r : Result Room Fault × Table × List ℕ) (i : ℕ) (h : WritableHandle) (xs : List ℕ) → Sound r.1 → ((room : Room) → r.0 ≡ Ok room → Roomy r.1 i h (length xs) room.handle) → Sound (extended r i xs).1
extended_sound (Ok room, t, m) i h xs s roomy =
    let has = roomy room refl in
    sound_cut t i room.handle s has.stands room.handle.start (room.handle.len + length xs) room.handle.capacity (omega arith) (omega arith) refl
extended_sound (Err e, t, m) i h xs s roomy = s

module _ (t : Table) (m : List ℕ) (f : ℕ → MemoryFault) (g : ℕ → ℕ → ℕ) (i : ℕ) (h : WritableHandle) where
  pub reserve_sound : (a : ℕ) → Sound t → handle_at t i ≡ Writable h → ((size need : ℕ) → need ≤ g size need) → Sound (reserve_of t m f g i h a).1
  reserve_sound a s is enough = both_after (λ r. Sound r.1) (memory_check t m f i) t m _ (λ _. s) (λ _ _. slid_sound (room_of t m g i h a) (room_sound t m g i h a s is enough))

  pub extend_sound : (xs : List ℕ) → Sound t → handle_at t i ≡ Writable h → ((size need : ℕ) → need ≤ g size need) → Sound (extend_of t m f g i h xs).1
  extend_sound xs s is enough =
      both_after (λ r. Sound r.1) (memory_check t m f i) t m _ (λ _. s) (λ _ _.
      extended_sound (room_of t m g i h (length xs)) i h xs (room_sound t m g i h (length xs) s is enough) (room_enough t m g i h (length xs) s is enough))

pub try_reclaim_sound : (t : Table) (m : List ℕ) (f : ℕ → MemoryFault) (i : ℕ) (h : WritableHandle) (a : ℕ) → Sound t → handle_at t i ≡ Writable h → Sound (try_reclaim_of t m f i h a).1
try_reclaim_sound t m f i h a s is = both_after (λ r. Sound r.1) (memory_check t m f i) t m _ (λ _. s) (λ _ _. reclaim_sound t m i h a s is)

-- Less of a handle, or none of it.

module _ (t : Table) (i : ℕ) (h : WritableHandle) where
  pub truncate_sound : (n : ℕ) → Sound t → handle_at t i ≡ Writable h → Sound (truncate_of t i h n)
  truncate_sound n s is =
      let w = over t i h s is in
      cond_both (ltb n h.len) (with_handle t i (Writable (cut_to h n))) t Sound
      (λ e. sound_cut t i h s is h.start n h.capacity (omega (arith, ltb-true n h.len e)) (omega arith) refl)
      (λ _. s)

  pub advance_sound : (n : ℕ) → Sound t → handle_at t i ≡ Writable h → Sound (advance_of t i h n).1
  advance_sound n s is =
      let w = over t i h s is in
      table_after (λ r. Sound r.1) (range_check (leb n h.len) i) t _ (λ _. s) (λ x e.
      let within = range_passed n h.len i e in
      sound_cut t i h s is (h.start + n) (h.len - n) (h.capacity - n) (omega arith) (omega arith) (omega arith))

  pub release_sound : Sound t → handle_at t i ≡ Writable h → Sound (detach t i)
  release_sound s is = sound_detach t i s (ap handle_free is)
