-- Every turn leaves a sound table.
use Rattle.std.proofs.Common.{◌≡◌, ℕ, ◌||◌, ltb, List, Ok, Err, Result, sym, refl}
use Rattle.memory.specs.declared.fault.MemoryFault.{MemoryFault}
use Rattle.std.proofs.lemmas.Bool.{cond_both, ltb-false, or_parts}
use Rattle.table.specs.Checks.{no_row, open_check, or_refuse, or_refuse_with}
use Rattle.table.specs.Soundness.{Sound}
use Rattle.faults.specs.declared.Fault.{Fault}
use Rattle.rows.specs.declared.handle.WritableHandle.{WritableHandle}
use Rattle.table.specs.declared.table.Table.{Table}
use Rattle.table.proofs.SoundSteps.{sound_opened}
use Rattle.writable.proofs.CallsSound as calls
use Rattle.ledger.specs.BytesMut.{handed_back, pair_check, released, try_unsplit_known, unsplit_known, writable_check}
use Rattle.ledger.specs.Opening.{open_call}
use Rattle.ledger.specs.declared.bytes_mut.BytesMut.{BytesMut}
use Rattle.ledger.proofs.Knowing.{known, known_both}
use Rattle.splitting.proofs.JoinsSound.{try_unsplit_sound, unsplit_sound}
use Rattle.splitting.proofs.SplitsSound.{split_off_sound, split_to_sound}
use Rattle.splitting.specs.Joins.{try_unsplit_of, unsplit_of}
use Rattle.table.proofs.Passing.{both_after, opened_from, table_after}
use Rattle.law.specs.Calls.{Call, State, turn}
use Rattle.law.specs.Calls.{opening, tally, with_capacity, from, len, capacity, read, split_off, split_to, split, truncate, advance, reserve, try_reclaim, extend, try_unsplit, unsplit, release}

-- a sound table, and a sound one behind a check that passes, leave a sound one
sound_table : {A B : Type 0} (r : Result A Fault) (t : Table) (rest : A → Result B Fault × Table) → Sound t → ((x : A) → r ≡ Ok x → Sound (rest x).1) → Sound (or_refuse r t rest).1
sound_table r t rest s goes = table_after (λ o. Sound o.1) r t rest (λ _. s) goes

sound_both : {A B : Type 0} (r : Result A Fault) (t : Table) (m : List ℕ) (rest : A → Result B Fault × Table × List ℕ) → Sound t → ((x : A) → r ≡ Ok x → Sound (rest x).1) → Sound (or_refuse_with r t m rest).1
sound_both r t m rest s goes = both_after (λ o. Sound o.1) r t m rest (λ _. s) goes

sound_released : (r : Result WritableHandle Fault) (t : Table) (k : BytesMut) → Sound t → ((h : WritableHandle) → r ≡ Ok h → Sound (released (Ok h) t k).1) → Sound (released r t k).1
sound_released (Ok h) t k s goes = goes h refl
sound_released (Err e) t k s goes = s

sound_tried : (r : Result (WritableHandle × WritableHandle) Fault) (t : Table) (k o : BytesMut) → Sound t → ((p : WritableHandle × WritableHandle) → r ≡ Ok p → Sound (try_unsplit_of t k.row p.0 o.row p.1).1) → Sound (try_unsplit_known r t k o).1
sound_tried (Ok p) t k o s goes = goes p refl
sound_tried (Err e) t k o s goes = s

sound_handed : (o : BytesMut) (y : Result ℕ Fault × Table × List ℕ) → Sound y.1 → Sound (handed_back o y).1
sound_handed o (Ok n, t, m) s = s
sound_handed o (Err e, t, m) s = s

sound_unsplit : (r : Result (WritableHandle × WritableHandle) Fault) (t : Table) (m : List ℕ) (f : ℕ → MemoryFault) (g : ℕ → ℕ → ℕ) (k o : BytesMut) → Sound t → ((p : WritableHandle × WritableHandle) → r ≡ Ok p → Sound (unsplit_of t m f g k.row p.0 o.row p.1).1) → Sound (unsplit_known r t m f g k o).1
sound_unsplit (Ok p) t m f g k o s goes = sound_handed o (unsplit_of t m f g k.row p.0 o.row p.1) (goes p refl)
sound_unsplit (Err e) t m f g k o s goes = s

sound_open : (t : Table) (n f l : ℕ) → Sound t → Sound (open_call t n f l).1
sound_open t n f l s =
    cond_both (t.opened || (ltb l f || ltb 16777216 l)) _ _ (λ (r : Result (Unit {0}) Fault × Table). Sound r.1) (λ _. s) (λ e.
    let p = or_parts t.opened (ltb l f || ltb 16777216 l) e in
    let q = or_parts (ltb l f) (ltb 16777216 l) p.1 in
    sound_opened t n f l s p.0 (ltb-false l f q.0) (ltb-false 16777216 l q.1))

module _ (f : ℕ → MemoryFault) (s : State) (so : Sound s.table) where
  pub turn_sound : (c : Call) → Sound (turn f s c).1.table
  turn_sound (opening n fixed limit) = sound_open s.table n fixed limit so
  turn_sound tally = so
  turn_sound (with_capacity n) = sound_table (open_check s.table no_row) s.table _ so (λ x e. calls.with_capacity_sound s.table n so (opened_from s.table no_row x (sym e)))
  turn_sound (from xs) = sound_both (open_check s.table no_row) s.table s.memory _ so (λ x e. calls.from_sound s.table s.memory f xs so (opened_from s.table no_row x (sym e)))
  turn_sound (len k) = so
  turn_sound (capacity k) = so
  turn_sound (read k at out) = so
  turn_sound (split_off k at) = sound_table (writable_check s.table k) s.table _ so (λ h e. split_off_sound s.table k.row h so (known s.table k h e).held at)
  turn_sound (split_to k at) = sound_table (writable_check s.table k) s.table _ so (λ h e. split_to_sound s.table k.row h so (known s.table k h e).held at)
  turn_sound (split k) = sound_table (writable_check s.table k) s.table _ so (λ h e. split_to_sound s.table k.row h so (known s.table k h e).held h.len)
  turn_sound (truncate k n) = sound_table (writable_check s.table k) s.table _ so (λ h e. calls.truncate_sound s.table k.row h n so (known s.table k h e).held)
  turn_sound (advance k n) = sound_table (writable_check s.table k) s.table _ so (λ h e. calls.advance_sound s.table k.row h n so (known s.table k h e).held)
  turn_sound (reserve k g a) = sound_both (writable_check s.table k) s.table s.memory _ so (λ h e. calls.reserve_sound s.table s.memory f g.grown k.row h a so (known s.table k h e).held g.enough)
  turn_sound (try_reclaim k a) = sound_both (writable_check s.table k) s.table s.memory _ so (λ h e. calls.try_reclaim_sound s.table s.memory f k.row h a so (known s.table k h e).held)
  turn_sound (extend k g xs) = sound_both (writable_check s.table k) s.table s.memory _ so (λ h e. calls.extend_sound s.table s.memory f g.grown k.row h xs so (known s.table k h e).held g.enough)
  turn_sound (try_unsplit k o) = sound_tried (pair_check s.table k o) s.table k o so (λ p e. let both = known_both s.table k o p e in try_unsplit_sound s.table k.row o.row p.0 p.1 so both.held both.other_held both.two)
  turn_sound (unsplit k g o) = sound_unsplit (pair_check s.table k o) s.table s.memory f g.grown k o so (λ p e. let both = known_both s.table k o p e in unsplit_sound s.table k.row o.row p.0 p.1 so both.held both.other_held both.two s.memory g.grown g.enough f)
  turn_sound (release k) = sound_released (writable_check s.table k) s.table k so (λ h e. calls.release_sound s.table k.row h so (known s.table k h e).held)
