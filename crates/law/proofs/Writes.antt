-- What a call keeps that writes a handle anew, and bytes into its capacity.
use Rattle.std.proofs.Common.{◌≡◌, ℕ, ◌+◌, ◌<◌, ◌≤◌, true, false, leb, ◌≢◌, List, ◌++◌, length, get_or, take, drop, set, Some, None, sum, sym, refl, ap, ◌∙◌, subst, inl, inr, arith}
use lib.Seq.{paste}
use Rattle.std.proofs.lemmas.List.Edits.{length-paste}
use Rattle.std.proofs.lemmas.List.{get_or-set_other, get_or-set_same, length-drop, length-set, set-get_or, take_all}
use Rattle.std.proofs.lemmas.List.Sums.{sum_by-set}
use Rattle.std.proofs.lemmas.Bool.{cases_Bool, cases_eq, cond_both, leb-true, true≢false}
use Rattle.table.proofs.Positions.{capacity_apart, starts_above}
use Rattle.table.proofs.Sets.{at_set}
use Rattle.table.proofs.SoundSteps.{alone, block_under, ends_inside, free_handle_is, live_opened, live_row, unheld}
use Rattle.rows.specs.Rows.{block_free, block_in, block_of, blocked, count_of, extent_of, handle_free, len_of, lowered, place_of, start_of, writable}
use Rattle.table.specs.Soundness.{Sound}
use Rattle.table.specs.Tables.{block_at, detach, handle_at, let_go, settle, with_block, with_handle}
use Rattle.rows.specs.declared.block.Block.{Block}
use Rattle.rows.specs.declared.block.BlockRow.{BlockRow}
use Rattle.rows.specs.declared.block.BlockRow.TheVariants as block
use Rattle.rows.specs.declared.handle.HandleRow.{HandleRow}
use Rattle.rows.specs.declared.handle.HandleRow.TheVariants as row
use Rattle.rows.specs.declared.handle.WritableHandle.{WritableHandle}
use Rattle.table.specs.declared.table.Table.{Table}
use Rattle.reserve.proofs.HandleFacts.{Handled, handled}
use Rattle.writable.specs.Calls.{fresh, fresh_block, longer}
use Rattle.reserve.specs.Rooms.{copied, grown_block, grown_handle, moved_out, moved_to, new_block}
use Rattle.reserve.specs.Rules.{offset}
use Rattle.law.proofs.Frames.{front_unwritten, length_part, part_behind, part_unwritten, part_written}
use Rattle.law.proofs.Kept.{Kept, shown_by}
use Rattle.law.specs.Book.{Book, enter, list_of, the_list}
use Rattle.law.specs.Law.{part}

-- What a sound table tells of the bytes that its handles show.

module _ {t : Table} (s : Sound t) where
  -- in a memory that reaches as far as the table, every handle shows as many bytes as it says
  shows_whole : (m : List ℕ) → t.limit ≤ length m → (j : ℕ) → length (part m (start_of (handle_at t j)) (len_of (handle_at t j))) ≡ len_of (handle_at t j)
  shows_whole m reaches j =
      length_part m (start_of (handle_at t j)) (len_of (handle_at t j))
      (elim (cases_Bool (handle_free (handle_at t j))) [
        | inl free ↦ omega (arith, ap start_of (free_handle_is (handle_at t j) free), ap len_of (free_handle_is (handle_at t j) free))
        | inr live ↦ omega (arith, (s.fits j).shows, ends_inside s j live)
      ])

-- the bytes m became n: as many, and the same in the fixed part and under every handle but that of row i
pub record Spared (t : Table) (i : ℕ) (m n : List ℕ) : Type 0 where
  pub long : length n ≡ length m
  pub front : take t.fixed n ≡ take t.fixed m
  pub others : (j : ℕ) → j ≢ i → shown_by n (handle_at t j) ≡ shown_by m (handle_at t j)

pub nothing_written : (t : Table) (i : ℕ) (m : List ℕ) → Spared t i m m
nothing_written t i m = record { long = refl; front = refl; others = (λ _ _. refl) }

shown_same : (m n : List ℕ) (h : HandleRow) → part n (start_of h) (len_of h) ≡ part m (start_of h) (len_of h) → shown_by n h ≡ shown_by m h
shown_same m n row.Free e = refl
shown_same m n (row.Writable h) e = ap Some e
shown_same m n (row.ReadOnly h) e = ap Some e

-- bytes written into the capacity of the handle of row i
pub written_within : (t : Table) (i at : ℕ) (m xs : List ℕ) (n : ℕ) → Sound t → writable (handle_at t i) ≡ true → start_of (handle_at t i) ≤ at → at + n ≤ start_of (handle_at t i) + extent_of (handle_at t i) → at + n ≤ length m → n ≤ length xs → Spared t i m (paste m at xs n)
written_within t i at m xs n s w from to inside enough =
    record {
      long = length-paste m at xs n inside enough;
      front = front_unwritten m at xs n inside enough t.fixed (omega (arith, starts_above s i w));
      others = (λ j ne.
          let shows = (s.fits j).shows in
          shown_same m (paste m at xs n) (handle_at t j)
          (part_unwritten m at xs n inside enough (start_of (handle_at t j)) (len_of (handle_at t j)) (λ p x y. capacity_apart s i j p ne w (omega arith, omega arith) (omega arith, omega arith))));
    }

-- the table u is t with the handle h in row i; every other handle's block is where it was, and its mark no lower
pub record Rewritten (t u : Table) (i : ℕ) (h : WritableHandle) (marks marks' : List ℕ) : Type 0 where
  pub fixed : u.fixed ≡ t.fixed
  pub limit : u.limit ≡ t.limit
  pub here : handle_at u i ≡ row.Writable h
  pub rows : (j : ℕ) → j ≢ i → handle_at u j ≡ handle_at t j
  pub mark_rows : length marks' ≡ 32
  pub mark : h.start ≤ place_of (block_at u h.block) + get_or marks' h.block 0
  pub others : (j : ℕ) → j ≢ i → blocked (handle_at t j) ≡ true → (place_of (block_at u (block_of (handle_at t j))) ≡ place_of (block_under t j)) × (get_or marks (block_of (handle_at t j)) 0 ≤ get_or marks' (block_of (handle_at t j)) 0)

-- One row of the table and of the book written anew.

-- the mark of the handle's block reaches as far as its start
abbrev Marked : Table → List ℕ → HandleRow → Type 0
Marked t marks h = blocked h ≡ true → start_of h ≤ place_of (block_at t (block_of h)) + get_or marks (block_of h) 0

module _ {found : List ℕ} {t u : Table} {m n : List ℕ} {k : Book} {marks marks' : List ℕ} {slid distances i : ℕ} {h : WritableHandle} (kept : Kept found t m k marks slid distances) (s : Sound u) (w : Rewritten t u i h marks marks') (spared : Spared u i m n) (reaches : t.limit ≤ length m) where
  row_live : handle_free (handle_at u i) ≡ false
  row_live = ap handle_free w.here

  -- the book is entered with what the handle shows
  pub row_entered : (xs : List ℕ) (slid' distances' : ℕ) → xs ≡ part n h.start h.len → sum marks' + slid' ≤ distances' → Kept found u n (enter k i xs) marks' slid' distances'
  row_entered xs slid' distances' shows paid =
      record {
        sound = s;
        book_rows = length-set k i (Some xs) ∙ kept.book_rows;
        agrees = at_set k i (Some xs) None (λ j x. x ≡ shown_by n (handle_at u j)) (omega (arith, kept.book_rows, live_row s i row_live))
            (ap Some shows ∙ sym (ap (shown_by n) w.here))
            (λ j ne. kept.agrees j ∙ sym (spared.others j ne ∙ ap (shown_by m) (w.rows j ne)));
        whole = shows_whole s n (omega (arith, spared.long, w.limit));
        mark_rows = w.mark_rows;
        marked = (λ j. elim (cases_eq j i) [
          | inl e ↦ subst (Marked u marks') (sym (ap (handle_at u) e ∙ w.here)) (λ _. w.mark)
          | inr ne ↦ subst (Marked u marks') (sym (w.rows j ne)) (λ l. omega (arith, kept.marked j l, w.others j ne l))
        ]);
        paid = paid;
        untouched = (λ shut. absurd (true≢false (sym (live_opened s i row_live) ∙ shut)));
        fixed_part = spared.front ∙ subst (λ f. take f m ≡ take f found) (sym w.fixed) kept.fixed_part;
        long = spared.long ∙ kept.long;
      }

  -- the handle shows what it showed, and the book stays
  pub row_moved : (g : WritableHandle) (slid' distances' : ℕ) → handle_at t i ≡ row.Writable g → part n h.start h.len ≡ part m g.start g.len → sum marks' + slid' ≤ distances' → Kept found u n k marks' slid' distances'
  row_moved g slid' distances' is shows paid =
      subst (λ b. Kept found u n b marks' slid' distances') (ap (set k i) (sym (kept.agrees i ∙ ap (shown_by m) is)) ∙ set-get_or k i None)
      (row_entered (part m g.start g.len) slid' distances' (sym shows) paid)

-- only the totals change
pub retotalled : {found : List ℕ} {t : Table} {m : List ℕ} {k : Book} {marks : List ℕ} {slid distances : ℕ} → Kept found t m k marks slid distances → (slid' distances' : ℕ) → sum marks + slid' ≤ distances' → Kept found t m k marks slid' distances'
retotalled kept slid' distances' paid =
    record {
      sound = kept.sound;
      book_rows = kept.book_rows;
      agrees = kept.agrees;
      whole = kept.whole;
      mark_rows = kept.mark_rows;
      marked = kept.marked;
      paid = paid;
      untouched = kept.untouched;
      fixed_part = kept.fixed_part;
      long = kept.long;
    }

-- Tables with a handle in row i.

-- the marks of the other handles' blocks are no lower
abbrev MarksKept : Table → ℕ → List ℕ → List ℕ → Type 0
MarksKept t i marks marks' = (j : ℕ) → j ≢ i → blocked (handle_at t j) ≡ true → get_or marks (block_of (handle_at t j)) 0 ≤ get_or marks' (block_of (handle_at t j)) 0

-- no handle of another row is over block b
abbrev Only : Table → ℕ → ℕ → Type 0
Only t i b = (j : ℕ) → j ≢ i → blocked (handle_at t j) ≡ true → block_of (handle_at t j) ≢ b

module _ (t : Table) (i : ℕ) (h : WritableHandle) (marks marks' : List ℕ) (within : i < length t.handles) (mark_rows : length marks' ≡ 32) (others : MarksKept t i marks marks') where
  rewritten_handle : h.start ≤ place_of (block_at t h.block) + get_or marks' h.block 0 → Rewritten t (with_handle t i (row.Writable h)) i h marks marks'
  rewritten_handle mark =
      record {
        fixed = refl;
        limit = refl;
        here = get_or-set_same t.handles i (row.Writable h) row.Free within;
        rows = (λ j ne. get_or-set_other t.handles i j (row.Writable h) row.Free ne);
        mark_rows = mark_rows;
        mark = mark;
        others = (λ j ne l. (refl, others j ne l));
      }

  rewritten_settle : (x : Block) → h.block < length t.blocks → Only t i h.block → h.start ≤ x.place + get_or marks' h.block 0 → Rewritten t (settle t i h.block x (row.Writable h)) i h marks marks'
  rewritten_settle x known only mark =
      record {
        fixed = refl;
        limit = refl;
        here = get_or-set_same t.handles i (row.Writable h) row.Free within;
        rows = (λ j ne. get_or-set_other t.handles i j (row.Writable h) row.Free ne);
        mark_rows = mark_rows;
        mark = omega (arith, ap place_of (get_or-set_same t.blocks h.block (block.Live x) block.Free known));
        others = (λ j ne l. (ap place_of (get_or-set_other t.blocks h.block (block_of (handle_at t j)) (block.Live x) block.Free (only j ne l)), others j ne l));
      }

-- The mark of a block set to 0.

mark_cleared : (t : Table) (i : ℕ) (marks : List ℕ) (b : ℕ) → Only t i b → MarksKept t i marks (set marks b 0)
mark_cleared t i marks b only j ne l = omega (arith, get_or-set_other marks b (block_of (handle_at t j)) 0 0 (only j ne l))

sum_cleared : (marks : List ℕ) (b : ℕ) → b < length marks → sum (set marks b 0) + get_or marks b 0 ≡ sum marks
sum_cleared marks b l = omega (arith, sum_by-set (λ x. x) marks b 0 0 l)

-- a block that keeps a handle stays where it is
lowered_place : (x : BlockRow) → 2 ≤ count_of x → place_of (lowered x) ≡ place_of x
lowered_place block.Free l = refl
lowered_place (block.Live b) l = cond_both (leb b.count 1) block.Free _ (λ y. place_of y ≡ b.place) (λ q. absurd (omega (arith, leb-true b.count 1 q))) (λ _. refl)

-- The handle h of row i, over the block b.

module _ {found : List ℕ} {t : Table} {m : List ℕ} {k : Book} {marks : List ℕ} {slid distances : ℕ} {h : WritableHandle} {b : Block} (kept : Kept found t m k marks slid distances) (i : ℕ) (is : handle_at t i ≡ row.Writable h) (over : Handled t h b) (reaches : t.limit ≤ length m) where
  its_row : i < length t.handles
  its_row = omega (arith, kept.sound.rows, live_row kept.sound i (ap handle_free is))

  its_known : h.block < 32
  its_known = omega (arith, (kept.sound.fits i).known (ap blocked is), ap block_of is)

  its_place : place_of (block_at t h.block) ≡ b.place
  its_place = ap place_of over.over

  its_mark : h.start ≤ b.place + get_or marks h.block 0
  its_mark = omega (arith, subst (Marked t marks) is (kept.marked i) refl, its_place)

  only_handle : b.count ≡ 1 → Only t i h.block
  only_handle single j ne l e =
      alone kept.sound i (ap blocked is) (subst (λ r. count_of (block_at t (block_of r)) ≡ 1) (sym is) (ap count_of over.over ∙ single)) j ne l (ap block_of is ∙ sym e)

  -- the bytes that it shows, copied to where the row's handle starts now
  copied_along : {u : Table} {g : WritableHandle} {marks' : List ℕ} → Sound u → Rewritten t u i g marks marks' → g.len ≡ h.len → (slid' : ℕ) → sum marks' + slid' ≤ distances → Kept found u (copied m h g.start) k marks' slid' distances
  copied_along {u} {g} s w same slid' paid =
      let new = handled u i g w.here s (block_in (block_at u g.block)) refl in
      let limit = w.limit in
      let inside : g.start + h.len ≤ length m = omega arith in
      let enough : h.len ≤ length (drop h.start m) = simp length-drop (omega arith) in
      row_moved kept s w
      (written_within u i g.start m (drop h.start m) h.len s (ap writable w.here) (omega (arith, ap start_of w.here)) (omega (arith, ap start_of w.here, ap extent_of w.here)) inside enough)
      reaches h slid' distances is
      (ap (part (copied m h g.start) g.start) same ∙ part_written m g.start (drop h.start m) h.len inside enough)
      paid

  -- it slides to the place of its block, and its mark pays
  pub slide_kept : b.count ≡ 1 → h.len ≤ offset h b → Sound (with_handle t i (row.Writable (moved_to h b.place b.size))) → Kept found (with_handle t i (row.Writable (moved_to h b.place b.size))) (copied m h b.place) k (set marks h.block 0) (slid + h.len) distances
  slide_kept single far s =
      copied_along s
      (rewritten_handle t i (moved_to h b.place b.size) marks (set marks h.block 0) its_row (length-set marks h.block 0 ∙ kept.mark_rows) (mark_cleared t i marks h.block (only_handle single)) (omega (arith, its_place)))
      refl (slid + h.len) (omega (arith, kept.paid, its_mark, sum_cleared marks h.block (omega (arith, its_known, kept.mark_rows))))

  -- its block grows to n bytes at p
  pub grow_kept : (n p : ℕ) → b.count ≡ 1 → Sound (settle t i h.block (grown_block b n p) (row.Writable (grown_handle h b n p))) → Kept found (settle t i h.block (grown_block b n p) (row.Writable (grown_handle h b n p))) (copied m h (p + offset h b)) k marks slid distances
  grow_kept n p single s =
      copied_along s
      (rewritten_settle t i (grown_handle h b n p) marks marks its_row kept.mark_rows (λ _ _ _. omega arith) (grown_block b n p) (omega (arith, its_known, kept.sound.blocks)) (only_handle single) (omega (arith, its_mark)))
      refl slid kept.paid

  -- its capacity changes
  pub widen_kept : (c : ℕ) → Sound (with_handle t i (row.Writable (moved_to h h.start c))) → Kept found (with_handle t i (row.Writable (moved_to h h.start c))) m k marks slid distances
  widen_kept c s =
      row_moved kept s
      (rewritten_handle t i (moved_to h h.start c) marks marks its_row kept.mark_rows (λ _ _ _. omega arith) (omega (arith, its_mark, its_place)))
      (nothing_written _ i m) reaches h slid distances is refl kept.paid

  -- it moves out of its block, which keeps another handle, into one of n bytes at p in the free block row `new`
  pub move_out_kept : (new n p : ℕ) → 2 ≤ b.count → new < 32 → block_free (block_at t new) ≡ true → Sound (settle (detach t i) i new (new_block b p n) (row.Writable (moved_out h new p n))) → Kept found (settle (detach t i) i new (new_block b p n) (row.Writable (moved_out h new p n))) (copied m h p) k (set marks new 0) slid distances
  move_out_kept new n p shared known free =
      let g = moved_out h new p n in
      let x = new_block b p n in
      let left = lowered (block_at t h.block) in
      let bs = set t.blocks h.block left in
      let hs = set t.handles i row.Free in
      let same_place : (c : ℕ) → place_of (get_or bs c block.Free) ≡ place_of (block_at t c) = at_set t.blocks h.block left block.Free (λ c y. place_of y ≡ place_of (block_at t c)) (omega (arith, its_known, kept.sound.blocks)) (lowered_place (block_at t h.block) (omega (arith, ap count_of over.over))) (λ _ _. refl) in
      let only = λ (j : ℕ) (_ : j ≢ i). unheld kept.sound new free j in
      let within : i < length hs = omega (arith, its_row, length-set t.handles i row.Free) in
      let placed : new < length bs = omega (arith, length-set t.blocks h.block left, kept.sound.blocks) in
      let moved : Rewritten t (settle (with_handle (with_block t h.block left) i row.Free) i new x (row.Writable g)) i g marks (set marks new 0) = record {
        fixed = refl;
        limit = refl;
        here = get_or-set_same hs i (row.Writable g) row.Free within;
        rows = (λ j ne. get_or-set_other hs i j (row.Writable g) row.Free ne ∙ get_or-set_other t.handles i j row.Free row.Free ne);
        mark_rows = length-set marks new 0 ∙ kept.mark_rows;
        mark = omega (arith, ap place_of (get_or-set_same bs new (block.Live x) block.Free placed));
        others = (λ j ne l. (ap place_of (get_or-set_other bs new (block_of (handle_at t j)) (block.Live x) block.Free (only j ne l)) ∙ same_place (block_of (handle_at t j)), mark_cleared t i marks new only j ne l));
      } in
      subst (λ r. Sound (settle (with_handle (let_go t r) i row.Free) i new x (row.Writable g)) → Kept found (settle (with_handle (let_go t r) i row.Free) i new x (row.Writable g)) (copied m h p) k (set marks new 0) slid distances) (sym is)
      (λ s. copied_along s moved refl slid (omega (arith, kept.paid, sum_cleared marks new (omega (arith, kept.mark_rows)))))

  -- the bytes xs are written behind those that it shows
  pub extend_kept : (xs : List ℕ) → Sound (with_handle t i (row.Writable (longer h (length xs)))) → Kept found (with_handle t i (row.Writable (longer h (length xs)))) (paste m (h.start + h.len) xs (length xs)) (enter k i (list_of k i ++ xs)) marks slid distances
  extend_kept xs s =
      let g = longer h (length xs) in
      let w = rewritten_handle t i g marks marks its_row kept.mark_rows (λ _ _ _. omega arith) (omega (arith, its_mark, its_place)) in
      let u = with_handle t i (row.Writable g) in
      let new = handled u i g w.here s (block_in (block_at u h.block)) refl in
      let at = h.start + h.len in
      let inside : at + length xs ≤ length m = omega arith in
      let enough : length xs ≤ length xs = omega arith in
      row_entered kept s w
      (written_within u i at m xs (length xs) s (ap writable w.here) (omega (arith, ap start_of w.here)) (omega (arith, ap start_of w.here, ap extent_of w.here)) inside enough)
      reaches (list_of k i ++ xs) slid distances
      (ap (λ o. the_list o ++ xs) (kept.agrees i ∙ ap (shown_by m) is) ∙ sym (part_behind m at xs (length xs) inside enough h.start h.len refl ∙ ap (λ x. part m h.start h.len ++ x) (take_all (length xs) xs enough)))
      kept.paid

-- a new handle in the free row i, over a new block at p in the free block row b, that shows the bytes xs
pub made_kept : {found : List ℕ} {t : Table} {m : List ℕ} {k : Book} {marks : List ℕ} {slid distances : ℕ} → Kept found t m k marks slid distances → t.limit ≤ length m → (i b p : ℕ) (xs : List ℕ) → i < 64 → b < 32 → block_free (block_at t b) ≡ true → Sound (settle t i b (fresh_block p (length xs)) (row.Writable (fresh b p (length xs) (length xs)))) → Kept found (settle t i b (fresh_block p (length xs)) (row.Writable (fresh b p (length xs) (length xs)))) (paste m p xs (length xs)) (enter k i xs) (set marks b 0) slid distances
made_kept {t = t} {m} {marks = marks} {slid} {distances} kept reaches i b p xs li lb free s =
    let n = length xs in
    let g = fresh b p n n in
    let u = settle t i b (fresh_block p n) (row.Writable g) in
    let only = λ (j : ℕ) (_ : j ≢ i). unheld kept.sound b free j in
    let w = rewritten_settle t i g marks (set marks b 0) (omega (arith, kept.sound.rows)) (length-set marks b 0 ∙ kept.mark_rows) (mark_cleared t i marks b only) (fresh_block p n) (omega (arith, kept.sound.blocks)) only (omega arith) in
    let new = handled u i g w.here s (block_in (block_at u b)) refl in
    let inside : p + n ≤ length m = omega arith in
    let enough : n ≤ length xs = omega arith in
    row_entered kept s w
    (written_within u i p m xs n s (ap writable w.here) (omega (arith, ap start_of w.here)) (omega (arith, ap start_of w.here, ap extent_of w.here)) inside enough)
    reaches xs slid distances
    (sym (part_written m p xs n inside enough ∙ take_all n xs enough))
    (omega (arith, kept.paid, sum_cleared marks b (omega (arith, kept.mark_rows))))
