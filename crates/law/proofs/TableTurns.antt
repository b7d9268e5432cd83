-- The turns of the calls that leave the memory alone keep what a run keeps.
--   KeptIn r marks    what the run r has come to is kept, with the marks
--   KeptAfter r c o   the same of the run r after the call c, which came to o, with some marks
--   TurnKept f r c    the same of what the call c comes to, if it leaves the table sound, where f are the memory's faults
use Rattle.std.proofs.Common.{◌≡◌, ℕ, ◌+◌, ◌<◌, ◌≤◌, ◌||◌, ltb, leb, List, length, take, drop, set, Some, None, Ok, Err, Result, sym, refl, ap, ◌∙◌, subst, arith}
use Rattle.memory.specs.declared.fault.MemoryFault.{MemoryFault}
use Rattle.std.proofs.lemmas.List.{set-get_or, take_all}
use Rattle.std.proofs.lemmas.Bool.{cond_both, ltb-false, ltb-true, or_parts}
use Rattle.ledger.proofs.Knowing.{known}
use Rattle.table.proofs.Passing.{range_passed, table_after}
use Rattle.table.specs.Checks.{no_row, open_check, range_check}
use Rattle.rows.specs.Rows.{block_of, blocked, handle_free, start_of}
use Rattle.table.specs.Soundness.{Sound}
use Rattle.table.specs.Tables.{handle_at, opened_table, with_handle}
use Rattle.faults.specs.declared.Fault.{Fault}
use Rattle.faults.specs.declared.Fault.TheVariants as fault
use Rattle.rows.specs.declared.handle.HandleRow.TheVariants as row
use Rattle.rows.specs.declared.handle.WritableHandle.{WritableHandle}
use Rattle.table.specs.declared.table.Table.{Table}
use Rattle.table.specs.declared.tally.Tally.{Tally}
use Rattle.writable.specs.Calls.{advance_of, advanced, cut_to, fresh, fresh_block, row_made, truncate_of, with_capacity_of}
use Rattle.writable.specs.declared.calls.Made.{Made}
use Rattle.ledger.specs.BytesMut.{capacity_call, len_call, read_call, released, tokened, writable_check}
use Rattle.ledger.specs.Opening.{tally_call}
use Rattle.ledger.specs.declared.bytes_mut.BytesMut.{BytesMut}
use Rattle.law.specs.Book.{accepted, enter, fed, feed, list_of, slid_by}
use Rattle.law.specs.Calls as calls
use Rattle.law.specs.Calls.{Answer, Call, State, on_table, turn}
use Rattle.law.specs.Law.{part}
use Rattle.law.specs.Runs.{Run, gone}
use Rattle.law.proofs.BookSteps.{kept_detached, kept_opened, kept_reshaped, kept_same, kept_settled, mark_raised}
use Rattle.law.proofs.Kept.{Kept}
use Rattle.law.proofs.Checked.{make_on}
use Rattle.law.proofs.Showing.{handle_whole, list_shown, listed_shown, part_behind, part_front, whole_behind, whole_front}

abbrev pub KeptIn : Run → List ℕ → Type 0
KeptIn r marks = Kept r.found r.state.table r.state.memory r.book marks r.slid r.distances

abbrev pub KeptAfter : Run → Call → Answer × State → Type 0
KeptAfter r c o = (marks : List ℕ) × KeptIn (gone r c o) marks

abbrev pub TurnKept : (ℕ → MemoryFault) → Run → Call → Type 0
TurnKept f r c = Sound (turn f r.state c).1.table → KeptAfter r c (turn f r.state c)

-- No answer of a call that tells something says that bytes slid.

told_slid : (x : Result ℕ Fault) → slid_by (calls.told x) ≡ 0
told_slid (Ok n) = refl
told_slid (Err e) = refl

tallied_slid : (x : Result Tally Fault) → slid_by (calls.tallied x) ≡ 0
tallied_slid (Ok n) = refl
tallied_slid (Err e) = refl

filled_slid : (x : Result Unit Fault × List ℕ) → slid_by (calls.filled x) ≡ 0
filled_slid (Ok x, out) = refl
filled_slid (Err e, out) = refl

module _ (r : Run) (marks : List ℕ) (kept : KeptIn r marks) where
  -- a call that leaves the state and the book
  unchanged : (c : Call) (a : Answer) → feed r.found r.book c a ≡ r.book → slid_by a ≡ 0 → KeptAfter r c (a, r.state)
  unchanged c a same none =
      (marks, subst (λ k. Kept r.found r.state.table r.state.memory k marks (r.slid + slid_by a) (gone r c (a, r.state)).distances) (sym same) (kept_same kept _ _ (omega (arith, none))))

  pub refused : (c : Call) (e : Fault) → KeptAfter r c (calls.Refused e, r.state)
  refused c e = unchanged c (calls.Refused e) refl refl

  -- a call whose answer the book never takes up
  asked : (c : Call) → ((a : Answer) → fed r.found r.book c a ≡ r.book) → (a : Answer) → slid_by a ≡ 0 → KeptAfter r c (a, r.state)
  asked c same a none = unchanged c a (cond_both (accepted a) (fed r.found r.book c a) r.book (λ k. k ≡ r.book) (λ _. same a) (λ _. refl)) none

  -- the handle g of row i becomes h, with at most n bytes less in front, and shows xs
  reshaped : (i n : ℕ) (g h : WritableHandle) (xs : List ℕ) → handle_at r.state.table i ≡ row.Writable g → h.block ≡ g.block → h.start ≤ g.start + n → xs ≡ part r.state.memory h.start h.len → length (part r.state.memory h.start h.len) ≡ h.len → Sound (with_handle r.state.table i (row.Writable h)) → (marks' : List ℕ) × Kept r.found (with_handle r.state.table i (row.Writable h)) r.state.memory (enter r.book i xs) marks' (r.slid + 0) (r.distances + n)
  reshaped i n g h xs is on from shows whole sound =
      let t = r.state.table in
      let m = r.state.memory in (
        mark_raised marks (block_of (handle_at t i)) n,
        subst (λ ys. Kept r.found (with_handle t i (row.Writable h)) m (enter r.book i ys) (mark_raised marks (block_of (handle_at t i)) n) (r.slid + 0) (r.distances + n)) (sym shows)
            (kept_reshaped kept i n (row.Writable h) _ _ (ap handle_free is) (sym (ap blocked is)) (on ∙ sym (ap block_of is)) (omega (arith, ap start_of is)) whole sound (omega arith)),
      )

  module _ (k : BytesMut) (h : WritableHandle) (is : handle_at r.state.table k.row ≡ row.Writable h) (n : ℕ) where
    cut : n < h.len → Sound (with_handle r.state.table k.row (row.Writable (cut_to h n))) → KeptAfter r (calls.truncate k n) (on_table calls.done r.state (Ok tt, with_handle r.state.table k.row (row.Writable (cut_to h n))))
    cut less =
        let m = r.state.memory in
        let within : n ≤ h.len = omega arith in
        reshaped k.row 0 h (cut_to h n) _ is refl (omega arith)
        (ap (take n) (list_shown kept k.row h is) ∙ sym (part_front m h.start h.len n within))
        (whole_front m h.start h.len n within (handle_whole kept k.row h is))

    uncut : h.len ≤ n → KeptAfter r (calls.truncate k n) (on_table calls.done r.state (Ok tt, r.state.table))
    uncut more =
        let shown = list_shown kept k.row h is in
        let all : take n (list_of r.book k.row) ≡ list_of r.book k.row = take_all n _ (omega (arith, ap length shown, handle_whole kept k.row h is)) in
        unchanged (calls.truncate k n) calls.Done
        (ap (set r.book k.row) (ap Some (all ∙ shown) ∙ sym (listed_shown kept k.row h is)) ∙ set-get_or r.book k.row None) refl

    moved : n ≤ h.len → Sound (with_handle r.state.table k.row (row.Writable (advanced h n))) → KeptAfter r (calls.advance k n) (on_table calls.done r.state (Ok tt, with_handle r.state.table k.row (row.Writable (advanced h n))))
    moved within =
        let m = r.state.memory in
        reshaped k.row n h (advanced h n) _ is refl (omega arith)
        (ap (drop n) (list_shown kept k.row h is) ∙ sym (part_behind m h.start h.len n within))
        (whole_behind m h.start h.len n within (handle_whole kept k.row h is))

  module _ (f : ℕ → MemoryFault) where
    pub opening_turn : (number fixed limit : ℕ) → TurnKept f r (calls.opening number fixed limit)
    opening_turn number fixed limit =
        let t = r.state.table in
        let c = calls.opening number fixed limit in
        let bad = ltb limit fixed || ltb 16777216 limit in
        cond_both (t.opened || bad) (Err (fault.Opening no_row), t) (Ok tt, opened_table t number fixed limit) (λ o. Sound o.1 → KeptAfter r c (on_table calls.done r.state o))
        (λ _ _. refused c (fault.Opening no_row))
        (λ e sound. (marks, kept_opened kept number fixed limit _ _ (or_parts t.opened bad e).0 sound (omega arith)))

    pub tally_turn : TurnKept f r calls.tally
    tally_turn = λ _. asked calls.tally (λ _. refl) _ (tallied_slid (tally_call r.state.table))

    pub len_turn : (k : BytesMut) → TurnKept f r (calls.len k)
    len_turn k = λ _. asked (calls.len k) (λ _. refl) _ (told_slid (len_call r.state.table k))

    pub capacity_turn : (k : BytesMut) → TurnKept f r (calls.capacity k)
    capacity_turn k = λ _. asked (calls.capacity k) (λ _. refl) _ (told_slid (capacity_call r.state.table k))

    pub read_turn : (k : BytesMut) (at : ℕ) (out : List ℕ) → TurnKept f r (calls.read k at out)
    read_turn k at out = λ _. asked (calls.read k at out) (λ _. refl) _ (filled_slid (read_call r.state.table r.state.memory f k at out))

    pub truncate_turn : (k : BytesMut) (n : ℕ) → TurnKept f r (calls.truncate k n)
    truncate_turn k n =
        let t = r.state.table in
        let c = calls.truncate k n in
        table_after (λ o. Sound o.1 → KeptAfter r c (on_table calls.done r.state o)) (writable_check t k) t (λ h. (Ok tt, truncate_of t k.row h n))
        (λ e _. refused c e)
        (λ h passed.
        let is = (known t k h passed).held in
        cond_both (ltb n h.len) (with_handle t k.row (row.Writable (cut_to h n))) t (λ u. Sound u → KeptAfter r c (on_table calls.done r.state (Ok tt, u)))
        (λ e. cut k h is n (ltb-true n h.len e))
        (λ e _. uncut k h is n (ltb-false n h.len e)))

    pub advance_turn : (k : BytesMut) (n : ℕ) → TurnKept f r (calls.advance k n)
    advance_turn k n =
        let t = r.state.table in
        let c = calls.advance k n in
        let After = λ (o : Result (Unit {0}) Fault × Table). Sound o.1 → KeptAfter r c (on_table calls.done r.state o) in
        table_after After (writable_check t k) t (λ h. advance_of t k.row h n)
        (λ e _. refused c e)
        (λ h passed. table_after After (range_check (leb n h.len) k.row) t (λ _. (Ok tt, with_handle t k.row (row.Writable (advanced h n))))
        (λ e _. refused c e)
        (λ _ ranged. moved k h (known t k h passed).held n (range_passed n h.len k.row ranged)))

    pub release_turn : (k : BytesMut) → TurnKept f r (calls.release k)
    release_turn k = go (writable_check r.state.table k) refl
      where
        go : (x : Result WritableHandle Fault) → writable_check r.state.table k ≡ x → Sound (released x r.state.table k).1 → KeptAfter r (calls.release k) (on_table calls.released r.state (released x r.state.table k))
        go (Ok h) passed sound = (marks, kept_detached kept k.row _ _ (ap handle_free (known r.state.table k h passed).held) sound (omega arith))
        go (Err e) passed sound = refused (calls.release k) e

    pub with_capacity_turn : (n : ℕ) → TurnKept f r (calls.with_capacity n)
    with_capacity_turn n =
        let t = r.state.table in
        let c = calls.with_capacity n in
        let After = λ (o : Result Made Fault × Table). Sound (row_made o).1 → KeptAfter r c (on_table calls.made r.state (tokened t (row_made o).0, (row_made o).1)) in
        table_after (λ o. Sound o.1 → KeptAfter r c (on_table calls.made r.state o)) (open_check t no_row) t (λ _. (tokened t (with_capacity_of t n).0, (with_capacity_of t n).1))
        (λ e _. refused c e)
        (λ _ _. make_on t 0 n kept.sound After
        (λ i b p li _ lb free _ sound. (set marks b 0, kept_settled kept i b (fresh_block p n) (row.Writable (fresh b p n 0)) _ _ li lb free refl (omega arith) refl sound (omega arith)))
        (λ e _. refused c e))
