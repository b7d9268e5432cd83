-- What is kept is what is promised, a new ledger has it, and so every run whose turns keep it.
use Rattle.std.proofs.Common.{◌≡◌, ℕ, ◌+◌, ◌<◌, ◌≤◌, true, false, leb, ◌≢◌, List, [], ◌∷◌, length, replicate, Some, None, Ok, Err, Result, sym, refl, ap, ◌∙◌, subst, inl, inr, arith}
use Rattle.memory.specs.declared.fault.MemoryFault.{MemoryFault}
use Rattle.std.proofs.lemmas.List.{get_or_past}
use Rattle.std.proofs.lemmas.Bool.{cases_Bool, cases_eq, cases_lt, true≢false}
use Rattle.table.proofs.Sets.{row_replicate}
use Rattle.table.proofs.SoundSteps.{block_under, free_handle_is, sound_new, writable_blocked}
use Rattle.table.specs.Checks.{and_then, memory_check, range_check}
use Rattle.rows.specs.Rows.{block_free, block_of, blocked, handle_free, len_of, start_of, writable}
use Rattle.table.specs.Soundness.{InBlock, InHandle}
use Rattle.table.specs.Tables.{block_at, handle_at, new_table}
use Rattle.faults.specs.declared.Fault.{Fault}
use Rattle.rows.specs.declared.block.BlockRow.TheVariants as block
use Rattle.rows.specs.declared.handle.HandleRow.TheVariants as row
use Rattle.rows.specs.declared.handle.WritableHandle.{WritableHandle}
use Rattle.table.specs.declared.table.Table.{Table}
use Rattle.writable.specs.Calls.{buffer_after}
use Rattle.ledger.specs.BytesMut.{len_call, read_call, read_known, writable_check}
use Rattle.ledger.specs.declared.bytes_mut.BytesMut.{BytesMut}
use Rattle.law.specs.Book.{Book, list_of, listed}
use Rattle.law.specs.Calls.{Call, turn}
use Rattle.law.specs.Law.{EveryRunKeepsItsPromises, Keeps, Promises, part}
use Rattle.law.specs.Runs.{Run, begun, gone, run}
use Rattle.law.proofs.Kept.{Kept, shown_by}
use Rattle.law.proofs.Showing.{handle_whole, list_shown, part_part, shown_live}
use Rattle.ledger.proofs.Knowing.{known}
use Rattle.table.proofs.Passing.{and_then_passed, range_passed}
use Rattle.law.proofs.TableTurns.{KeptAfter, KeptIn}

-- the bytes read are those of the part asked for, where it lies in what the handle shows
part_read : (m : List ℕ) (start len at : ℕ) (out : List ℕ) (x : Result (Unit {0}) Fault) → (x ≡ Ok tt → at + length out ≤ len) → (buffer_after x out (part m (start + at) (length out))).0 ≡ Ok tt → (buffer_after x out (part m (start + at) (length out))).1 ≡ part (part m start len) at (length out)
part_read m start len at out (Ok tt) within e = part_part m start len at (length out) (within refl)
part_read m start len at out (Err f) within e = let z : ◌≡◌ {A = ℕ} 0 1 = cc in absurd (omega arith)

module _ {found : List ℕ} {t : Table} {m : List ℕ} {k : Book} {marks : List ℕ} {slid distances : ℕ} (kept : Kept found t m k marks slid distances) where
  -- a live block row is one of the 32
  live_known : (b : ℕ) → block_free (block_at t b) ≡ false → b < 32
  live_known b l = elim (cases_lt b 32) [ inl z ↦ z | inr z ↦ absurd (true≢false (sym (ap block_free (get_or_past t.blocks b block.Free (omega (arith, kept.sound.blocks)))) ∙ l)) ]

  -- what a writable handle holds lies in its block
  in_its_block : (i p : ℕ) → writable (handle_at t i) ≡ true → InHandle p (handle_at t i) → InBlock p (block_under t i)
  in_its_block i p w z =
      let fits = kept.sound.fits i in
      let over = writable_blocked (handle_at t i) w in
      omega (arith, fits.from over, fits.to over)

  capacities_apart : (i j p : ℕ) → i ≢ j → writable (handle_at t i) ≡ true → writable (handle_at t j) ≡ true → InHandle p (handle_at t i) → InHandle p (handle_at t j) → ⊥
  capacities_apart i j p ne w v y z =
      elim (cases_eq (block_of (handle_at t i)) (block_of (handle_at t j))) [
        | inl same ↦ (kept.sound.apart i j ne).no p w (writable_blocked (handle_at t j) v) same y z
        | inr other ↦ kept.sound.blocks_apart (block_of (handle_at t i)) (block_of (handle_at t j)) other p (in_its_block i p w y) (in_its_block j p v z)
      ]

  listed_live : (i : ℕ) → handle_free (handle_at t i) ≡ false → listed k i ≡ Some (part m (start_of (handle_at t i)) (len_of (handle_at t i)))
  listed_live i l = kept.agrees i ∙ shown_live m (handle_at t i) l

  listed_free : (i : ℕ) → handle_free (handle_at t i) ≡ true → listed k i ≡ None
  listed_free i e = kept.agrees i ∙ ap (shown_by m) (free_handle_is (handle_at t i) e)

  shown : (i : ℕ) (xs : List ℕ) → listed k i ≡ Some xs → part m (start_of (handle_at t i)) (len_of (handle_at t i)) ≡ xs
  shown i xs e =
      elim (cases_Bool (handle_free (handle_at t i))) [
        | inl free ↦ (let none = listed_free i free in let z : ◌≡◌ {A = ℕ} 0 1 = cc in absurd (omega arith))
        | inr live ↦ (let some = listed_live i live in cc)
      ]

  len_told : (token : BytesMut) (n : ℕ) → len_call t token ≡ Ok n → n ≡ length (list_of k token.row)
  len_told token n e =
      let passed = and_then_passed (writable_check t token) (λ h. Ok h.len) n e in
      let h = passed.0 in
      let is = (known t token h passed.1).held in
      let told : h.len ≡ n = cc passed.2 in
      omega (arith, ap length (list_shown kept token.row h is), handle_whole kept token.row h is)

  read_told : (f : ℕ → MemoryFault) (token : BytesMut) (at : ℕ) (out : List ℕ) → (read_call t m f token at out).0 ≡ Ok tt → (read_call t m f token at out).1 ≡ part (list_of k token.row) at (length out)
  read_told f token at out = go (writable_check t token) refl
    where
      go : (x : Result WritableHandle Fault) → writable_check t token ≡ x → (read_known x t m f token at out).0 ≡ Ok tt → (read_known x t m f token at out).1 ≡ part (list_of k token.row) at (length out)
      go (Ok h) passed =
          let reaches = memory_check t m f token.row in
          let ranged = λ (_ : Unit {0}). range_check (leb (at + length out) h.len) token.row in
          subst (λ xs. (read_known (Ok h) t m f token at out).0 ≡ Ok tt → (read_known (Ok h) t m f token at out).1 ≡ part xs at (length out)) (sym (list_shown kept token.row h (known t token h passed).held))
          (part_read m h.start h.len at out (and_then reaches ranged) (λ e. range_passed (at + length out) h.len token.row (and_then_passed reaches ranged tt e).2))
      go (Err x) passed = λ e. let z : ◌≡◌ {A = ℕ} 0 1 = cc in absurd (omega arith)

  pub kept_promises : (f : ℕ → MemoryFault) → Promises f t m k
  kept_promises f =
      record {
        counted = (λ b l. (kept.sound.counts b (live_known b l), (kept.sound.placed b).counted l));
        blocks_apart = (λ b c p ne. kept.sound.blocks_apart b c ne p);
        capacities_apart = capacities_apart;
        in_use = (λ i l e. let some = listed_live i l in let z : ◌≡◌ {A = ℕ} 0 1 = cc in omega arith);
        unused = listed_free;
        shown = shown;
        len_told = len_told;
        read_told = read_told f;
      }

pub kept_begun : (m : List ℕ) → Kept m new_table m (replicate 64 None) (replicate 32 0) 0 0
kept_begun m =
    let free = λ (i : ℕ). row_replicate 64 i row.Free in
    record {
      sound = sound_new;
      book_rows = refl;
      agrees = (λ i. row_replicate 64 i None ∙ sym (ap (shown_by m) (free i)));
      whole = (λ i. subst (λ g. length (part m (start_of g) (len_of g)) ≡ len_of g) (sym (free i)) refl);
      mark_rows = refl;
      marked = (λ i l. absurd (true≢false (sym l ∙ ap blocked (free i))));
      paid = omega arith;
      untouched = (λ _. refl);
      fixed_part = refl;
      long = refl;
    }

abbrev pub EveryTurnKeeps : Type 0
EveryTurnKeeps = (f : ℕ → MemoryFault) (r : Run) (c : Call) (marks : List ℕ) → KeptIn r marks → KeptAfter r c (turn f r.state c)

module _ (turns : EveryTurnKeeps) where
  run_keeps : (f : ℕ → MemoryFault) (r : Run) (calls : List Call) (marks : List ℕ) → KeptIn r marks → Keeps f (run f r calls)
  run_keeps f r [] marks kept = record { promises = kept_promises kept f; slides_paid = omega (arith, kept.paid) }
  run_keeps f r (c ∷ calls) marks kept =
      let after = turns f r c marks kept in
      run_keeps f (gone r c (turn f r.state c)) calls after.0 after.1

  pub every_run : EveryRunKeepsItsPromises
  every_run f m calls = run_keeps f (begun m) calls (replicate 32 0) (kept_begun m)
