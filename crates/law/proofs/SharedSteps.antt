-- What is kept where handles share a block, where one goes to another row, and where two become one. The memory stays.
use Rattle.std.proofs.Common.{◌≡◌, ℕ, ◌+◌, ◌<◌, ◌≤◌, true, false, List, length, get_or, set, None, sym, refl, ◌∙◌, subst, arith}
use Rattle.rows.specs.Rows.{blocked, block_of, len_of, place_of, raised, start_of}
use Rattle.rows.specs.declared.block.BlockRow.TheVariants as block
use Rattle.rows.specs.declared.handle.HandleRow.{HandleRow}
use Rattle.rows.specs.declared.handle.HandleRow.TheVariants as row
use Rattle.std.proofs.lemmas.List.{get_or-set_other, get_or-set_same, length-set}
use Rattle.std.proofs.lemmas.Bool.{true≢false}
use Rattle.table.proofs.Sets.{at_set}
use Rattle.table.proofs.SoundSteps.{blocked_live, raised_same}
use Rattle.table.specs.Soundness.{Sound}
use Rattle.table.specs.Tables.{attach, block_at, handle_at, with_handle}
use Rattle.table.specs.declared.table.Table.{Table}
use Rattle.law.proofs.BookSteps.{kept_reshaped, kept_row, mark_raised}
use Rattle.law.proofs.Kept.{Kept, shown_by}
use Rattle.law.specs.Book.{Book}
use Rattle.law.specs.Law.{part}

-- h is over the block of the handle g, begins at most n further, and the memory m holds what it shows
pub record Beside (m : List ℕ) (n : ℕ) (g h : HandleRow) : Type 0 where
  pub over : blocked h ≡ blocked g
  pub on : block_of h ≡ block_of g
  pub from : start_of h ≤ start_of g + n
  pub whole : length (part m (start_of h) (len_of h)) ≡ len_of h

module _ {found : List ℕ} {t : Table} {m : List ℕ} {k : Book} {marks : List ℕ} {slid distances : ℕ} (kept : Kept found t m k marks slid distances) where
  -- the mark of row i's block, raised by n, reaches a handle beside row i's
  raised_mark : (i n : ℕ) (h : HandleRow) → blocked (handle_at t i) ≡ true → Beside m n (handle_at t i) h → start_of h ≤ place_of (block_at t (block_of h)) + get_or (mark_raised marks (block_of (handle_at t i)) n) (block_of h) 0
  raised_mark i n h was w =
      let b = block_of (handle_at t i) in
      let at = get_or-set_same marks b (get_or marks b 0 + n) 0 (omega (arith, kept.mark_rows, (kept.sound.fits i).known was)) in
      subst (λ c. start_of h ≤ place_of (block_at t c) + get_or (mark_raised marks b n) c 0) (sym w.on) (omega (arith, kept.marked i was, w.from))

  -- row i's handle becomes g, and h goes into the free row j, both over its block
  pub kept_shared : (i j n : ℕ) (g h : HandleRow) (slid' distances' : ℕ) → blocked (handle_at t i) ≡ true → j < 64 → Beside m n (handle_at t i) g → Beside m n (handle_at t i) h → Sound (with_handle t i g) → Sound (attach (with_handle t i g) j h) → slid' + distances + n ≤ slid + distances' → Kept found (attach (with_handle t i g) j h) m (set (set k i (shown_by m g)) j (shown_by m h)) (mark_raised marks (block_of (handle_at t i)) n) slid' distances'
  kept_shared i j n g h slid' distances' was lj first second sound sound' pays =
      let c = block_of h in
      let x = raised (block_at t c) in
      let bs = set t.blocks c x in
      let cut = kept_reshaped kept i n g slid' distances' (blocked_live (handle_at t i) was) first.over first.on first.from first.whole sound pays in
      let places : (d : ℕ) → place_of (get_or bs d block.Free) ≡ place_of (block_at t d) = at_set t.blocks c x block.Free (λ d y. place_of y ≡ place_of (block_at t d)) (omega (arith, kept.sound.blocks, (kept.sound.fits i).known was, second.on)) (raised_same (block_at t c)).0 (λ _ _. refl) in
      kept_row cut bs j h (mark_raised marks (block_of (handle_at t i)) n) slid' distances' lj sound' second.whole cut.mark_rows
      (λ _. omega (arith, places c, raised_mark i n h was second))
      (λ d _ _. omega (arith, places (block_of (handle_at (with_handle t i g) d))))
      cut.paid

  -- row j's handle goes into the free row i, and g, over no block, into row j
  pub kept_passed_on : (i j : ℕ) (g : HandleRow) (slid' distances' : ℕ) → i < 64 → j < 64 → blocked g ≡ false → length (part m (start_of g) (len_of g)) ≡ len_of g → Sound (with_handle (with_handle t j g) i (handle_at t j)) → slid' + distances ≤ slid + distances' → Kept found (with_handle (with_handle t j g) i (handle_at t j)) m (set (set k j (shown_by m g)) i (shown_by m (handle_at t j))) marks slid' distances'
  kept_passed_on i j g slid' distances' li lj unblocked whole sound pays =
      let h = handle_at t j in
      let left = set t.handles j g in
      let books = set k j (shown_by m g) in
      let in_left : i < length left = omega (arith, length-set t.handles j g, kept.sound.rows) in
      let in-books : i < length books = omega (arith, length-set k j (shown_by m g), kept.book_rows) in
      let in_rows : j < length t.handles = omega (arith, kept.sound.rows) in
      let in-book : j < length k = omega (arith, kept.book_rows) in
      -- what holds of g, and of each row as it was, holds of each row then
      let each = λ (P : HandleRow → Type 0) (here : P g) (all : (a : ℕ) → P (handle_at t a)). at_set left i h row.Free (λ _ x. P x) in_left (all j) (λ a _. at_set t.handles j g row.Free (λ _ x. P x) in_rows here (λ b _. all b) a) in
      record {
        sound = sound;
        book_rows = length-set books i (shown_by m h) ∙ length-set k j (shown_by m g) ∙ kept.book_rows;
        agrees = at_set left i h row.Free (λ a x. get_or (set books i (shown_by m h)) a None ≡ shown_by m x) in_left
            (get_or-set_same books i (shown_by m h) None in-books)
            (λ a ne. get_or-set_other books i a (shown_by m h) None ne ∙ at_set t.handles j g row.Free (λ b x. get_or books b None ≡ shown_by m x) in_rows (get_or-set_same k j (shown_by m g) None in-book) (λ b nb. get_or-set_other k j b (shown_by m g) None nb ∙ kept.agrees b) a);
        whole = each (λ x. length (part m (start_of x) (len_of x)) ≡ len_of x) whole kept.whole;
        mark_rows = kept.mark_rows;
        marked = each (λ x. blocked x ≡ true → start_of x ≤ place_of (block_at t (block_of x)) + get_or marks (block_of x) 0) (λ l. absurd (true≢false (sym l ∙ unblocked))) kept.marked;
        paid = omega (arith, kept.paid);
        untouched = kept.untouched;
        fixed_part = kept.fixed_part;
        long = kept.long;
      }
