-- What a sound table tells of the positions of its handles.
use Rattle.std.proofs.Common.{◌≡◌, ℕ, ◌+◌, ◌≤◌, true, ◌≢◌, ◌⊎◌, sym, ap, inl, inr, arith}
use Rattle.rows.specs.Rows.{block_of, blocked, extent_of, handle_free, start_of, writable}
use Rattle.std.proofs.lemmas.Bool.{cases_Bool, cases_eq, cases_lt}
use Rattle.table.proofs.SoundSteps.{block_live, block_under, free_handle_is, writable_blocked}
use Rattle.table.specs.Soundness.{InBlock, InHandle, Sound}
use Rattle.table.specs.Tables.{handle_at}
use Rattle.table.specs.declared.table.Table.{Table}

module _ {t : Table} (s : Sound t) where
  -- a position of a handle above the fixed part is one of its block
  pub held_in_block : (j p : ℕ) → t.fixed ≤ p → InHandle p (handle_at t j) → (blocked (handle_at t j) ≡ true) × InBlock p (block_under t j)
  held_in_block j p above held =
      elim (cases_Bool (blocked (handle_at t j))) [
        | inl l ↦ (l, (omega (arith, (s.fits j).from l), omega (arith, (s.fits j).to l)))
        | inr u ↦ elim (cases_Bool (handle_free (handle_at t j))) [
          | inl free ↦ absurd (omega (arith, held.1, ap start_of (free_handle_is (handle_at t j) free), ap extent_of (free_handle_is (handle_at t j) free)))
          | inr live ↦ absurd (omega (arith, held.1, (s.fits j).views live u))
        ]
      ]

  -- a writable handle starts in the working part
  pub starts_above : (i : ℕ) → writable (handle_at t i) ≡ true → t.fixed ≤ start_of (handle_at t i)
  starts_above i w =
      let l = writable_blocked (handle_at t i) w in
      omega (arith, (s.placed (block_of (handle_at t i))).low (block_live s i l), (s.fits i).from l)

  -- no other handle holds a position of its capacity
  pub capacity_apart : (i j p : ℕ) → j ≢ i → writable (handle_at t i) ≡ true → InHandle p (handle_at t i) → InHandle p (handle_at t j) → ⊥
  capacity_apart i j p ne w here there =
      let above : t.fixed ≤ p = omega (arith, starts_above i w) in
      let own = held_in_block i p above here in
      let other = held_in_block j p above there in
      elim (cases_eq (block_of (handle_at t i)) (block_of (handle_at t j))) [
        | inl e ↦ (s.apart i j (λ q. ne (sym q))).no p w other.0 e here there
        | inr off ↦ s.blocks_apart (block_of (handle_at t i)) (block_of (handle_at t j)) off p own.1 other.1
      ]

  -- a run of positions in the capacity of the writable handle of row i begins before the bytes that another handle holds, or behind them
  pub written_beside : (i j to n : ℕ) → j ≢ i → writable (handle_at t i) ≡ true → start_of (handle_at t i) ≤ to → to + n ≤ start_of (handle_at t i) + extent_of (handle_at t i) → n ≤ extent_of (handle_at t j) → (to ≤ start_of (handle_at t j)) ⊎ (start_of (handle_at t j) + n ≤ to)
  written_beside i j to n ne w from end most =
      elim (cases_lt (start_of (handle_at t j)) to) [
        | inl later ↦ elim (cases_lt to (start_of (handle_at t j) + n)) [
          | inl inside ↦ absurd (capacity_apart i j to ne w (from, omega arith) (omega arith, omega arith))
          | inr behind ↦ inr behind
        ]
        | inr before ↦ inl before
      ]
