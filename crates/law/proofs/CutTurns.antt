-- The turns of the calls that cut a writable handle in two keep what a run keeps.
use Rattle.std.proofs.Common.{◌≡◌, ℕ, ◌+◌, ◌<◌, ◌≤◌, true, leb, List, length, take, drop, Result, sym, ap, ◌∙◌, arith}
use Rattle.faults.specs.declared.Fault.{Fault}
use Rattle.ledger.proofs.Knowing.{known}
use Rattle.ledger.specs.BytesMut.{tokened, writable_check}
use Rattle.ledger.specs.declared.bytes_mut.BytesMut.{BytesMut}
use Rattle.memory.specs.declared.fault.MemoryFault.{MemoryFault}
use Rattle.reserve.proofs.HandlesSound.{over}
use Rattle.rows.specs.Rows.{blocked, handle_free, start_of}
use Rattle.rows.specs.declared.handle.HandleRow.TheVariants as row
use Rattle.rows.specs.declared.handle.WritableHandle.{WritableHandle}
use Rattle.splitting.proofs.SplitsSound.{shares_back, shares_front}
use Rattle.splitting.specs.Splits.{back, cut_in_two, front, split_to_of}
use Rattle.std.proofs.lemmas.List.{drop_all, take_all}
use Rattle.table.proofs.Passing.{handle_row_passed, range_passed, table_after}
use Rattle.table.proofs.SoundShared.{Shares, cut_sound, sound_shared}
use Rattle.table.specs.Checks.{handle_row_check, range_check}
use Rattle.table.specs.Tables.{handle_at}
use Rattle.table.specs.declared.table.Table.{Table}
use Rattle.law.proofs.BookSteps.{kept_relisted}
use Rattle.law.proofs.Kept.{Kept}
use Rattle.law.proofs.SharedSteps.{kept_shared}
use Rattle.law.proofs.Showing.{handle_whole, list_shown, part_first, part_rest, whole_first, whole_rest}
use Rattle.law.proofs.TableTurns.{KeptAfter, KeptIn, TurnKept, refused}
use Rattle.law.specs.Book.{enter, list_of}
use Rattle.law.specs.Calls as calls
use Rattle.law.specs.Calls.{Call, on_table}
use Rattle.law.specs.Law.{part}
use Rattle.law.specs.Runs.{Run}

module _ (r : Run) (marks : List ℕ) (kept : KeptIn r marks) where
  -- the handle h of row i becomes g, and p goes into the free row j: each begins at most n further
  module _ (i j n : ℕ) (h g p : WritableHandle) (is : handle_at r.state.table i ≡ row.Writable h) (lj : j < 64) (free : handle_free (handle_at r.state.table j) ≡ true) (w : Shares r.state.table i (row.Writable g) (row.Writable p)) where
    cut_kept : (xs ys : List ℕ) → g.start ≤ h.start + n → p.start ≤ h.start + n → xs ≡ part r.state.memory g.start g.len → ys ≡ part r.state.memory p.start p.len → length (part r.state.memory g.start g.len) ≡ g.len → length (part r.state.memory p.start p.len) ≡ p.len → (marks' : List ℕ) × Kept r.found (cut_in_two r.state.table i g j p) r.state.memory (enter (enter r.book i xs) j ys) marks' (r.slid + 0) (r.distances + n)
    cut_kept xs ys from from' shows shows' whole whole' =
        let t = r.state.table in
        let m = r.state.memory in
        let was = ap blocked is in
        let start = ap start_of is in
        let after = kept_shared kept i j n (row.Writable g) (row.Writable p) (r.slid + 0) (r.distances + n) was lj
        (record { over = w.first.over; on = w.first.on; from = omega arith; whole = whole })
        (record { over = w.second.over; on = w.second.on; from = omega arith; whole = whole' })
        (cut_sound t i j (row.Writable g) (row.Writable p) kept.sound lj free was w)
        (sound_shared t i j (row.Writable g) (row.Writable p) kept.sound lj free was w)
        (omega arith) in
        (_, kept_relisted after (ap (λ zs. enter (enter r.book i zs) j (part m p.start p.len)) (sym shows) ∙ ap (λ zs. enter (enter r.book i xs) j zs) (sym shows')))

  module _ (f : ℕ → MemoryFault) (k : BytesMut) where
    -- the outcome of a cut of the handle of the token, behind its checks
    abbrev CutKept : Call → Result ℕ Fault × Table → Type 0
    CutKept c o = KeptAfter r c (on_table calls.made r.state (tokened r.state.table o.0, o.1))

    pub split_off_turn : (at : ℕ) → TurnKept f r (calls.split_off k at)
    split_off_turn at _ =
        let t = r.state.table in
        let m = r.state.memory in
        let c = calls.split_off k at in
        table_after (λ o. KeptAfter r c (on_table calls.made r.state o)) (writable_check t k) t _ (λ e. refused r marks kept c e) (λ h passed.
        let is = (known t k h passed).held in
        let list = list_shown kept k.row h is in
        let whole = handle_whole kept k.row h is in
        table_after (CutKept c) (range_check (leb at h.capacity) k.row) t _ (λ e. refused r marks kept c e) (λ _ ranged.
        table_after (CutKept c) (handle_row_check t k.row) t _ (λ e. refused r marks kept c e) (λ j vacant.
        let free = handle_row_passed t k.row kept.sound j vacant in
        cut_kept k.row j at h (front h at) (back h at) is free.0 free.1 (shares_back t k.row h kept.sound is at (range_passed at h.capacity k.row ranged)) _ _ (omega arith) (omega arith)
        (ap (take at) list ∙ sym (part_first m h.start h.len at whole))
        (ap (drop at) list ∙ sym (part_rest m h.start h.len at whole))
        (whole_first m h.start h.len at whole)
        (whole_rest m h.start h.len at whole))))

    -- the first at bytes shown go to a new handle
    to_kept : (c : Call) (at : ℕ) (h : WritableHandle) → ((j : ℕ) → j < 64 → handle_free (handle_at r.state.table j) ≡ true → at ≤ h.len → KeptAfter r c (calls.Made j, record { table = cut_in_two r.state.table k.row (back h at) j (front h at); memory = r.state.memory })) → CutKept c (split_to_of r.state.table k.row h at)
    to_kept c at h cut =
        let t = r.state.table in
        table_after (CutKept c) (range_check (leb at h.len) k.row) t _ (λ e. refused r marks kept c e) (λ _ ranged.
        table_after (CutKept c) (handle_row_check t k.row) t _ (λ e. refused r marks kept c e) (λ j vacant.
        let free = handle_row_passed t k.row kept.sound j vacant in
        cut j free.0 free.1 (range_passed at h.len k.row ranged)))

    pub split_to_turn : (at : ℕ) → TurnKept f r (calls.split_to k at)
    split_to_turn at _ =
        let t = r.state.table in
        let m = r.state.memory in
        let c = calls.split_to k at in
        table_after (λ o. KeptAfter r c (on_table calls.made r.state o)) (writable_check t k) t _ (λ e. refused r marks kept c e) (λ h passed.
        let is = (known t k h passed).held in
        let list = list_shown kept k.row h is in
        let whole = handle_whole kept k.row h is in
        let w = over t k.row h kept.sound is in
        to_kept c at h (λ j lj free within.
        cut_kept k.row j at h (back h at) (front h at) is lj free (shares_front t k.row h kept.sound is at (omega arith)) _ _ (omega arith) (omega arith)
        (ap (drop at) list ∙ sym (part_rest m h.start h.len at whole))
        (ap (take at) list ∙ sym (part_first m h.start h.len at whole))
        (whole_rest m h.start h.len at whole)
        (whole_first m h.start h.len at whole)))

    pub split_turn : TurnKept f r (calls.split k)
    split_turn _ =
        let t = r.state.table in
        let m = r.state.memory in
        let c = calls.split k in
        table_after (λ o. KeptAfter r c (on_table calls.made r.state o)) (writable_check t k) t _ (λ e. refused r marks kept c e) (λ h passed.
        let is = (known t k h passed).held in
        let at = h.len in
        let list = list_shown kept k.row h is in
        let whole = handle_whole kept k.row h is in
        let w = over t k.row h kept.sound is in
        let long : length (list_of r.book k.row) ≡ at = ap length list ∙ whole in
        to_kept c at h (λ j lj free within.
        cut_kept k.row j (length (list_of r.book k.row)) h (back h at) (front h at) is lj free (shares_front t k.row h kept.sound is at (omega arith)) _ _ (omega arith) (omega arith)
        (sym (part_rest m h.start h.len at whole ∙ drop_all at (part m h.start h.len) (omega arith)))
        (list ∙ sym (part_first m h.start h.len at whole ∙ take_all at (part m h.start h.len) (omega arith)))
        (whole_rest m h.start h.len at whole)
        (whole_first m h.start h.len at whole)))
