-- Cutting a handle in two leaves a sound table.
use Rattle.std.proofs.Common.{Ok, ◌≡◌, ℕ, ◌≤◌, leb, sym, refl, ap, arith}
use Rattle.reserve.proofs.HandlesSound.{over}
use Rattle.rows.specs.Rows.{block_of, blocked, extent_of, start_of, writable}
use Rattle.rows.specs.declared.handle.HandleRow.TheVariants.{Writable}
use Rattle.rows.specs.declared.handle.WritableHandle.{WritableHandle}
use Rattle.table.proofs.Passing.{handle_row_passed, range_passed, table_after}
use Rattle.table.proofs.SoundShared.{Shares, sound_shared}
use Rattle.table.proofs.SoundSteps.{Within}
use Rattle.table.specs.Checks.{handle_row_check, range_check}
use Rattle.table.specs.Soundness.{Sound}
use Rattle.table.specs.Tables.{handle_at}
use Rattle.table.specs.declared.table.Table.{Table}
use Rattle.splitting.specs.Splits.{back, cut_in_two, front, split_off_of, split_to_of}

module _ (t : Table) (i : ℕ) (h : WritableHandle) (s : Sound t) (is : handle_at t i ≡ Writable h) where
  module _ (at : ℕ) (within : at ≤ h.capacity) where
    front_within : Within (handle_at t i) (Writable (front h at))
    front_within =
        record { over = sym (ap blocked is); on = sym (ap block_of is); writes = sym (ap writable is); from = omega (arith, ap start_of is); to = omega (arith, ap start_of is, ap extent_of is) }

    back_within : Within (handle_at t i) (Writable (back h at))
    back_within =
        record { over = sym (ap blocked is); on = sym (ap block_of is); writes = sym (ap writable is); from = omega (arith, ap start_of is); to = omega (arith, ap start_of is, ap extent_of is) }

    -- the handle keeps its front
    pub shares_back : Shares t i (Writable (front h at)) (Writable (back h at))
    shares_back =
        let w = over t i h s is in
        record { first = front_within; second = back_within; first_shared = refl; second_shared = refl; first_shows = omega arith; second_shows = omega arith; apart = (λ _ p x y. omega arith) }

    -- the handle keeps what is behind it
    pub shares_front : Shares t i (Writable (back h at)) (Writable (front h at))
    shares_front =
        let w = over t i h s is in
        record { first = back_within; second = front_within; first_shared = refl; second_shared = refl; first_shows = omega arith; second_shows = omega arith; apart = (λ _ p x y. omega arith) }

  -- the new row takes what is behind the first at bytes
  pub cut_off_sound : (at new : ℕ) → at ≤ h.capacity → handle_row_check t i ≡ Ok new → Sound (cut_in_two t i (front h at) new (back h at))
  cut_off_sound at new within vacant =
      let free = handle_row_passed t i s new vacant in
      sound_shared t i new _ _ s free.0 free.1 (ap blocked is) (shares_back at within)

  -- the new row takes the first at bytes
  pub cut_to_sound : (at new : ℕ) → at ≤ h.len → handle_row_check t i ≡ Ok new → Sound (cut_in_two t i (back h at) new (front h at))
  cut_to_sound at new within vacant =
      let w = over t i h s is in
      let free = handle_row_passed t i s new vacant in
      sound_shared t i new _ _ s free.0 free.1 (ap blocked is) (shares_front at (omega arith))

  pub split_off_sound : (at : ℕ) → Sound (split_off_of t i h at).1
  split_off_sound at =
      table_after (λ r. Sound r.1) (range_check (leb at h.capacity) i) t _ (λ _. s) (λ _ ranged.
      table_after (λ r. Sound r.1) (handle_row_check t i) t _ (λ _. s) (λ new vacant. cut_off_sound at new (range_passed at h.capacity i ranged) vacant))

  pub split_to_sound : (at : ℕ) → Sound (split_to_of t i h at).1
  split_to_sound at =
      table_after (λ r. Sound r.1) (range_check (leb at h.len) i) t _ (λ _. s) (λ _ ranged.
      table_after (λ r. Sound r.1) (handle_row_check t i) t _ (λ _. s) (λ new vacant. cut_to_sound at new (range_passed at h.len i ranged) vacant))
