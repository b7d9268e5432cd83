-- What the calls tell of a token's view, and do to it, in any sound table over a memory that reaches as far as the table does.
-- They are the law's turns, from a book that lists what the rows show.
use Rattle.std.proofs.Common.{◌≡◌, ℕ, ◌+◌, ◌≤◌, leb, List, ◌++◌, map, length, drop, replicate, Some, None, Ok, Err, sum, Result, sym, refl, ap, ◌∙◌, subst, inl, inr, arith}
use lib.ListN.{length-map, get_or-map}
use Rattle.memory.specs.declared.fault.MemoryFault.{MemoryFault}
use Rattle.std.proofs.lemmas.List.{get_or-replicate, get_or-set_same, length-drop, length-take, take_all}
use Rattle.std.proofs.lemmas.Bool.{cases_Bool}
use Rattle.table.proofs.SoundSteps.{free_handle_is, live_row}
use Rattle.table.specs.Checks.{memory_check, or_refuse, or_refuse_with, range_check}
use Rattle.rows.specs.Rows.{block_of, blocked, handle_free, len_of, start_of}
use Rattle.table.specs.Soundness.{Sound}
use Rattle.table.specs.Tables.{handle_at}
use Rattle.faults.specs.declared.Fault.{Fault}
use Rattle.rows.specs.declared.handle.HandleRow.TheVariants as row
use Rattle.rows.specs.declared.handle.WritableHandle.{WritableHandle}
use Rattle.table.specs.declared.table.Table.{Table}
use Rattle.ledger.proofs.Knowing.{known}
use Rattle.table.proofs.Passing.{and_then_passed, memory_reaches, refused_ok}
use Rattle.writable.specs.Calls.{advance_of, buffer_after, extend_of}
use Rattle.ledger.specs.BytesMut.{advance_call, extend_call, len_call, read_call, read_known, writable_check}
use Rattle.ledger.specs.declared.bytes_mut.BytesMut.{BytesMut}
use Rattle.law.specs.Book.{Book, enter, list_of, listed}
use Rattle.law.specs.Calls as calls
use Rattle.law.specs.Calls.{Rule, on_both, on_table}
use Rattle.law.specs.Law.{part}
use Rattle.law.specs.Runs.{Run, gone}
use Rattle.law.specs.Views.{view}
use Rattle.law.proofs.Kept.{shown_by}
use Rattle.law.proofs.MemoryTurns.{extend_turn}
use Rattle.law.proofs.Promising.{kept_promises}
use Rattle.law.proofs.Showing.{list_shown}
use Rattle.law.proofs.TableTurns.{KeptIn, advance_turn}
use Rattle.law.proofs.TurnSound.{turn_sound}

-- what a call went on with
with_passed : {A B : Type 0} (r : Result A Fault) (t : Table) (m : List ℕ) (rest : A → (Result B Fault × Table × List ℕ)) (y : B) → (or_refuse_with r t m rest).0 ≡ Ok y → (x : A) × (r ≡ Ok x) × ((rest x).0 ≡ Ok y)
with_passed (Ok x) t m rest y e = (x, refl, e)
with_passed (Err f) t m rest y e = refused_ok e

table_passed : {A B : Type 0} (r : Result A Fault) (t : Table) (rest : A → (Result B Fault × Table)) (y : B) → (or_refuse r t rest).0 ≡ Ok y → (x : A) × (r ≡ Ok x) × ((rest x).0 ≡ Ok y)
table_passed (Ok x) t rest y e = (x, refl, e)
table_passed (Err f) t rest y e = refused_ok e

buffered : (r : Result (Unit {0}) Fault) (old new : List ℕ) → (buffer_after r old new).0 ≡ Ok tt → r ≡ Ok tt
buffered (Ok tt) old new e = refl
buffered (Err f) old new e = refused_ok e

-- the book that lists what the rows show, and marks that no handle passes
abbrev book_of : Table → List ℕ → Book
book_of t m = map (shown_by m) t.handles

abbrev marks_of : Table → List ℕ
marks_of t = replicate 32 t.limit

abbrev seen : Table → List ℕ → Run
seen t m = record { found = m; state = record { table = t; memory = m }; book = book_of t m; slid = 0; distances = sum (marks_of t) }

module _ (t : Table) (m : List ℕ) (s : Sound t) (reaches : t.limit ≤ length m) where
  -- what a row shows ends within the limit
  ends : (i : ℕ) → start_of (handle_at t i) + len_of (handle_at t i) ≤ t.limit
  ends i =
      let fits = s.fits i in
      elim (cases_Bool (handle_free (handle_at t i))) [
        | inl free ↦ (let none = free_handle_is (handle_at t i) free in omega (arith, ap start_of none, ap len_of none))
        | inr live ↦ elim (cases_Bool (blocked (handle_at t i))) [
          | inl over ↦ omega (arith, fits.shows, fits.to over, (s.placed (block_of (handle_at t i))).high)
          | inr fixed ↦ omega (arith, fits.shows, fits.views live fixed, s.ordered)
        ]
      ]

  pub seen_kept : KeptIn (seen t m) (marks_of t)
  seen_kept =
      record {
        sound = s;
        book_rows = length-map t.handles (shown_by m) ∙ s.rows;
        agrees = (λ i. get_or-map (shown_by m) t.handles i row.Free);
        whole = (λ i. omega (arith, length-take (len_of (handle_at t i)) (drop (start_of (handle_at t i)) m), length-drop (start_of (handle_at t i)) m, ends i));
        mark_rows = refl;
        marked = (λ i over. omega (arith, ends i, get_or-replicate 32 (block_of (handle_at t i)) t.limit 0 ((s.fits i).known over)));
        paid = omega arith;
        untouched = (λ _. refl);
        fixed_part = refl;
        long = refl;
      }

  -- what the book lists for a known token is its view
  listed_view : (k : BytesMut) (h : WritableHandle) → writable_check t k ≡ Ok h → list_of (book_of t m) k.row ≡ view t m k
  unfolding view
  listed_view k h passed =
      let is = (known t k h passed).held in
      list_shown seen_kept k.row h is ∙ sym (ap (λ g. part m (start_of g) (len_of g)) is)

-- what a book that is kept lists is the view
kept_view : {r : Run} {marks : List ℕ} → KeptIn r marks → (f : ℕ → MemoryFault) (k : BytesMut) (xs : List ℕ) → listed r.book k.row ≡ Some xs → view r.state.table r.state.memory k ≡ xs
unfolding view
kept_view kept f k xs e = (kept_promises kept f).shown k.row xs e

-- a row that the book enters is one of its rows
entered : (t : Table) (m : List ℕ) (s : Sound t) (k : BytesMut) (h : WritableHandle) (xs : List ℕ) → writable_check t k ≡ Ok h → listed (enter (book_of t m) k.row xs) k.row ≡ Some xs
entered t m s k h xs passed =
    let inside = live_row s k.row (ap handle_free (known t k h passed).held) in
    get_or-set_same (book_of t m) k.row (Some xs) None (omega (arith, length-map t.handles (shown_by m), s.rows))

module _ (t : Table) (m : List ℕ) (f : ℕ → MemoryFault) (k : BytesMut) (s : Sound t) where
  -- an accepted extend appends the bytes
  pub extended_view : (g : ℕ → ℕ → ℕ) (enough : (size need : ℕ) → need ≤ g size need) (xs : List ℕ) (n : ℕ) (t' : Table) (m' : List ℕ) → (Ok n, t', m') ≡ extend_call t m f g k xs → view t' m' k ≡ view t m k ++ xs
  extended_view g enough xs n t' m' does =
      let rule : Rule = record { grown = g; enough = enough } in
      let known = with_passed (writable_check t k) t m (λ h. extend_of t m f g k.row h xs) n (sym (ap (λ o. o.0) does)) in
      let asked = with_passed (memory_check t m f k.row) t m _ n known.2 in
      let reaches = memory_reaches t m f k.row asked.0 (sym asked.1) in
      let c = calls.extend k rule xs in
      let turned = extend_turn f (seen t m) (seen_kept t m s reaches) k rule xs (turn_sound f (seen t m).state s c) in
      let after = subst (λ (o : Result ℕ Fault × Table × List ℕ). (marks : List ℕ) × KeptIn (gone (seen t m) c (on_both calls.slid o)) marks) (sym does) turned in
      kept_view after.1 f k _ (entered t m s k known.0 _ known.1) ∙ ap (λ ys. ys ++ xs) (listed_view t m s reaches k known.0 known.1)

  -- an accepted read shows that the memory reaches as far as the table does, and answers the part of the view
  pub read_reaches : (at : ℕ) (out out' : List ℕ) → (Ok tt, out') ≡ read_call t m f k at out → t.limit ≤ length m
  read_reaches at out out' does = go (writable_check t k) (sym (ap (λ o. o.0) does))
    where
      go : (x : Result WritableHandle Fault) → (read_known x t m f k at out).0 ≡ Ok tt → t.limit ≤ length m
      go (Ok h) e =
          let passed = and_then_passed (memory_check t m f k.row) (λ _. range_check (leb (at + length out) h.len) k.row) tt (buffered _ out _ e) in
          memory_reaches t m f k.row passed.0 (sym passed.1)
      go (Err e) q = refused_ok q

  known_read : (at : ℕ) (out : List ℕ) → (read_call t m f k at out).0 ≡ Ok tt → t.limit ≤ length m → list_of (book_of t m) k.row ≡ view t m k
  known_read at out e reaches = go (writable_check t k) refl e
    where
      go : (x : Result WritableHandle Fault) → writable_check t k ≡ x → (read_known x t m f k at out).0 ≡ Ok tt → list_of (book_of t m) k.row ≡ view t m k
      go (Ok h) known q = listed_view t m s reaches k h known
      go (Err e) known q = refused_ok q

  pub read_view : (at : ℕ) (out out' : List ℕ) → (Ok tt, out') ≡ read_call t m f k at out → out' ≡ part (view t m k) at (length out)
  read_view at out out' does =
      let reaches = read_reaches at out out' does in
      ap (λ o. o.1) does ∙ (kept_promises (seen_kept t m s reaches) f).read_told k at out (sym (ap (λ o. o.0) does)) ∙ ap (λ ys. part ys at (length out)) (known_read at out (sym (ap (λ o. o.0) does)) reaches)

  -- in a memory that reaches so far, an accepted len answers how long the view is
  pub len_view : t.limit ≤ length m → (n : ℕ) → Ok n ≡ len_call t k → n ≡ length (view t m k)
  len_view reaches n does =
      let known = and_then_passed (writable_check t k) (λ h. Ok h.len) n (sym does) in
      (kept_promises (seen_kept t m s reaches) f).len_told k n (sym does) ∙ ap length (listed_view t m s reaches k known.0 known.1)

  -- and an accepted advance drops the first bytes
  pub advanced_view : t.limit ≤ length m → (n : ℕ) (t' : Table) → (Ok tt, t') ≡ advance_call t k n → view t' m k ≡ drop n (view t m k)
  advanced_view reaches n t' does =
      let known = table_passed (writable_check t k) t (λ h. advance_of t k.row h n) tt (sym (ap (λ o. o.0) does)) in
      let c = calls.advance k n in
      let turned = advance_turn (seen t m) (marks_of t) (seen_kept t m s reaches) f k n (turn_sound f (seen t m).state s c) in
      let after = subst (λ (o : Result (Unit {0}) Fault × Table). (marks : List ℕ) × KeptIn (gone (seen t m) c (on_table calls.done (seen t m).state o)) marks) (sym does) turned in
      kept_view after.1 f k _ (entered t m s k known.0 _ known.1) ∙ ap (drop n) (listed_view t m s reaches k known.0 known.1)

  -- a read of as many bytes as len answered fills the buffer with the view
  pub read_whole : (n : ℕ) (out out' : List ℕ) → Ok n ≡ len_call t k → length out ≡ n → (Ok tt, out') ≡ read_call t m f k 0 out → out' ≡ view t m k
  read_whole n out out' told long does =
      let reaches = read_reaches 0 out out' does in
      read_view 0 out out' does ∙ take_all (length out) (view t m k) (omega (arith, len_view reaches n told))
