-- What is kept where the table and the book change together, and the memory stays.
--   with_blocks t bs       the table t with the block rows bs
--   mark_raised marks b n  the marks with that of block row b raised by n
-- Each lemma takes that the table after it is sound, and any totals that the change pays for.
use Rattle.std.proofs.Common.{◌≡◌, ℕ, ◌+◌, ◌<◌, ◌≤◌, true, false, leb, ◌≢◌, List, length, get_or, take, set, None, sum, sym, refl, ap, ◌∙◌, subst, inl, inr, arith}
use Rattle.std.proofs.lemmas.List.{get_or-set_other, get_or-set_same, length-set, set_past}
use Rattle.std.proofs.lemmas.List.Sums.{sum_by-set}
use Rattle.std.proofs.lemmas.Bool.{cases_lt, cond_both, false≢true, leb-true, true≢false}
use Rattle.table.proofs.Sets.{at_set}
use Rattle.table.proofs.SoundSteps.{block_under, live_row, two, unheld}
use Rattle.rows.specs.Rows.{blocked, block_free, block_of, count_of, handle_free, len_of, lowered, place_of, start_of}
use Rattle.table.specs.Soundness.{Sound}
use Rattle.table.specs.Tables.{block_at, detach, handle_at, opened_table, settle, with_block, with_handle}
use Rattle.rows.specs.declared.block.Block.{Block}
use Rattle.rows.specs.declared.block.BlockRow.{BlockRow}
use Rattle.rows.specs.declared.block.BlockRow.TheVariants as block
use Rattle.rows.specs.declared.handle.HandleRow.{HandleRow}
use Rattle.rows.specs.declared.handle.HandleRow.TheVariants as row
use Rattle.table.specs.declared.table.Table.{Table}
use Rattle.law.specs.Book.{Book, strike}
use Rattle.law.specs.Law.{part}
use Rattle.law.proofs.Kept.{Kept, shown_by}

abbrev pub with_blocks : Table → List BlockRow → Table
with_blocks t bs = record { number = t.number; opened = t.opened; fixed = t.fixed; limit = t.limit; handles = t.handles; blocks = bs }

abbrev pub mark_raised : List ℕ → ℕ → ℕ → List ℕ
mark_raised marks b n = set marks b (get_or marks b 0 + n)

-- no mark is lower
pub raised_marks : (marks : List ℕ) (b n c : ℕ) → get_or marks c 0 ≤ get_or (mark_raised marks b n) c 0
raised_marks marks b n c =
    elim (cases_lt b (length marks)) [
      | inl l ↦ at_set marks b (get_or marks b 0 + n) 0 (λ c x. get_or marks c 0 ≤ x) l (omega arith) (λ c _. omega arith) c
      | inr l ↦ omega (arith, ap (λ x. get_or x c 0) (set_past marks b (get_or marks b 0 + n) l))
    ]

pub raised_sum : (marks : List ℕ) (b n : ℕ) → sum (mark_raised marks b n) ≤ sum marks + n
raised_sum marks b n =
    elim (cases_lt b (length marks)) [
      | inl l ↦ omega (arith, sum_by-set (λ x. x) marks b (get_or marks b 0 + n) 0 l)
      | inr l ↦ omega (arith, ap sum (set_past marks b (get_or marks b 0 + n) l))
    ]

-- a block that keeps a handle keeps its place
lowered_place : (x : BlockRow) → 2 ≤ count_of x → place_of (lowered x) ≡ place_of x
lowered_place block.Free l = refl
lowered_place (block.Live b) l = cond_both (leb b.count 1) block.Free _ (λ y. place_of y ≡ b.place) (λ q. absurd (omega (arith, leb-true b.count 1 q))) (λ _. refl)

module _ {found : List ℕ} {t : Table} {m : List ℕ} {k : Book} {marks : List ℕ} {slid distances : ℕ} (kept : Kept found t m k marks slid distances) where
  -- nothing but the totals changes
  pub kept_same : (slid' distances' : ℕ) → slid' + distances ≤ slid + distances' → Kept found t m k marks slid' distances'
  kept_same slid' distances' pays =
      record {
        sound = kept.sound;
        book_rows = kept.book_rows;
        agrees = kept.agrees;
        whole = kept.whole;
        mark_rows = kept.mark_rows;
        marked = kept.marked;
        paid = omega (arith, kept.paid);
        untouched = kept.untouched;
        fixed_part = kept.fixed_part;
        long = kept.long;
      }

  -- the same book, written otherwise
  pub kept_relisted : {k' : Book} → k ≡ k' → Kept found t m k' marks slid distances
  kept_relisted e = subst (λ b. Kept found t m b marks slid distances) e kept

  -- a table that was shut is opened
  pub kept_opened : (number fixed limit : ℕ) (slid' distances' : ℕ) → t.opened ≡ false → Sound (opened_table t number fixed limit) → slid' + distances ≤ slid + distances' → Kept found (opened_table t number fixed limit) m k marks slid' distances'
  kept_opened number fixed limit slid' distances' shut sound pays =
      record {
        sound = sound;
        book_rows = kept.book_rows;
        agrees = kept.agrees;
        whole = kept.whole;
        mark_rows = kept.mark_rows;
        marked = kept.marked;
        paid = omega (arith, kept.paid);
        untouched = λ z. absurd (true≢false z);
        fixed_part = ap (take fixed) (kept.untouched shut);
        long = kept.long;
      }

  -- handle row i becomes h, over any block rows in which the other handles are marked as before or further
  pub kept_row : (bs : List BlockRow) (i : ℕ) (h : HandleRow) (marks' : List ℕ) (slid' distances' : ℕ) → i < 64 → Sound (with_handle (with_blocks t bs) i h) → length (part m (start_of h) (len_of h)) ≡ len_of h → length marks' ≡ 32 → (blocked h ≡ true → start_of h ≤ place_of (get_or bs (block_of h) block.Free) + get_or marks' (block_of h) 0) → ((j : ℕ) → j ≢ i → blocked (handle_at t j) ≡ true → place_of (block_under t j) + get_or marks (block_of (handle_at t j)) 0 ≤ place_of (get_or bs (block_of (handle_at t j)) block.Free) + get_or marks' (block_of (handle_at t j)) 0) → sum marks' + slid' ≤ distances' → Kept found (with_handle (with_blocks t bs) i h) m (set k i (shown_by m h)) marks' slid' distances'
  kept_row bs i h marks' slid' distances' li sound whole mark_rows here others paid =
      let ih : i < length t.handles = omega (arith, kept.sound.rows) in
      let ik : i < length k = omega (arith, kept.book_rows) in
      record {
        sound = sound;
        book_rows = length-set k i (shown_by m h) ∙ kept.book_rows;
        agrees = at_set t.handles i h row.Free (λ j g. get_or (set k i (shown_by m h)) j None ≡ shown_by m g) ih (get_or-set_same k i (shown_by m h) None ik) (λ j ne. get_or-set_other k i j (shown_by m h) None ne ∙ kept.agrees j);
        whole = at_set t.handles i h row.Free (λ _ g. length (part m (start_of g) (len_of g)) ≡ len_of g) ih whole (λ j _. kept.whole j);
        mark_rows = mark_rows;
        marked = at_set t.handles i h row.Free (λ _ g. blocked g ≡ true → start_of g ≤ place_of (get_or bs (block_of g) block.Free) + get_or marks' (block_of g) 0) ih here (λ j ne l. omega (arith, kept.marked j l, others j ne l));
        paid = paid;
        untouched = kept.untouched;
        fixed_part = kept.fixed_part;
        long = kept.long;
      }

  -- row i's handle moved by at most n inside its block
  pub kept_reshaped : (i n : ℕ) (h : HandleRow) (slid' distances' : ℕ) → handle_free (handle_at t i) ≡ false → blocked h ≡ blocked (handle_at t i) → block_of h ≡ block_of (handle_at t i) → start_of h ≤ start_of (handle_at t i) + n → length (part m (start_of h) (len_of h)) ≡ len_of h → Sound (with_handle t i h) → slid' + distances + n ≤ slid + distances' → Kept found (with_handle t i h) m (set k i (shown_by m h)) (mark_raised marks (block_of (handle_at t i)) n) slid' distances'
  kept_reshaped i n h slid' distances' live over on from whole sound pays =
      let b = block_of (handle_at t i) in
      let bound = (kept.sound.fits i).known in
      kept_row t.blocks i h (mark_raised marks b n) slid' distances' (live_row kept.sound i live) sound whole
      (length-set marks b (get_or marks b 0 + n) ∙ kept.mark_rows)
      (λ l. let was : blocked (handle_at t i) ≡ true = sym over ∙ l in
      subst (λ c. start_of h ≤ place_of (block_at t c) + get_or (mark_raised marks b n) c 0) (sym on)
      (omega (arith, kept.marked i was, get_or-set_same marks b (get_or marks b 0 + n) 0 (omega (arith, kept.mark_rows, bound was)))))
      (λ j _ _. omega (arith, raised_marks marks b n (block_of (handle_at t j))))
      (omega (arith, kept.paid, raised_sum marks b n))

  -- row i freed, and its block let go
  pub kept_detached : (i : ℕ) (slid' distances' : ℕ) → handle_free (handle_at t i) ≡ false → Sound (detach t i) → slid' + distances ≤ slid + distances' → Kept found (detach t i) m (strike k i) marks slid' distances'
  kept_detached i slid' distances' live sound pays =
      cond_both (blocked (handle_at t i)) (with_block t (block_of (handle_at t i)) (lowered (block_under t i))) t (λ u. Sound (with_handle u i row.Free) → Kept found (with_handle u i row.Free) m (strike k i) marks slid' distances')
      (λ was s. freed (set t.blocks (block_of (handle_at t i)) (lowered (block_under t i))) s (places was))
      (λ _ s. freed t.blocks s (λ j _ _. refl))
      sound
    where
      freed : (bs : List BlockRow) → Sound (with_handle (with_blocks t bs) i row.Free) → ((j : ℕ) → j ≢ i → blocked (handle_at t j) ≡ true → place_of (get_or bs (block_of (handle_at t j)) block.Free) ≡ place_of (block_under t j)) → Kept found (with_handle (with_blocks t bs) i row.Free) m (strike k i) marks slid' distances'
      freed bs s same =
          kept_row bs i row.Free marks slid' distances' (live_row kept.sound i live) s refl kept.mark_rows (λ l. absurd (false≢true l)) (λ j ne l. omega (arith, same j ne l)) (omega (arith, kept.paid))

      places : blocked (handle_at t i) ≡ true → (j : ℕ) → j ≢ i → blocked (handle_at t j) ≡ true → place_of (get_or (set t.blocks (block_of (handle_at t i)) (lowered (block_under t i))) (block_of (handle_at t j)) block.Free) ≡ place_of (block_under t j)
      places was j ne l =
          at_set t.blocks (block_of (handle_at t i)) (lowered (block_under t i)) block.Free (λ c x. block_of (handle_at t j) ≡ c → place_of x ≡ place_of (block_at t c)) (omega (arith, kept.sound.blocks, (kept.sound.fits i).known was))
          (λ e. lowered_place (block_under t i) (two kept.sound i j (λ q. ne (sym q)) was l (sym e)))
          (λ c _ _. refl)
          (block_of (handle_at t j)) refl

  -- a block in the free block row b, and over it, from its place on, the handle h in row i
  pub kept_settled : (i b : ℕ) (x : Block) (h : HandleRow) (slid' distances' : ℕ) → i < 64 → b < 32 → block_free (block_at t b) ≡ true → block_of h ≡ b → start_of h ≤ x.place → length (part m (start_of h) (len_of h)) ≡ len_of h → Sound (settle t i b x h) → slid' + distances ≤ slid + distances' → Kept found (settle t i b x h) m (set k i (shown_by m h)) (set marks b 0) slid' distances'
  kept_settled i b x h slid' distances' li lb free on from whole sound pays =
      let bs = set t.blocks b (block.Live x) in
      let at_b : get_or bs b block.Free ≡ block.Live x = get_or-set_same t.blocks b (block.Live x) block.Free (omega (arith, kept.sound.blocks)) in
      kept_row bs i h (set marks b 0) slid' distances' li sound whole
      (length-set marks b 0 ∙ kept.mark_rows)
      (λ _. subst (λ c. start_of h ≤ place_of (get_or bs c block.Free) + get_or (set marks b 0) c 0) (sym on) (omega (arith, ap place_of at_b)))
      (λ j _ l.
      let other = unheld kept.sound b free j l in
      omega (arith, ap place_of (get_or-set_other t.blocks b (block_of (handle_at t j)) (block.Live x) block.Free other), get_or-set_other marks b (block_of (handle_at t j)) 0 0 other))
      (omega (arith, kept.paid, sum_by-set (λ x. x) marks b 0 0 (omega (arith, kept.mark_rows))))
