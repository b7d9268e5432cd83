-- Handles that share a block, that go to another row, and that become one.
use Rattle.std.proofs.Common.{◌≡◌, ℕ, ◌+◌, ◌<◌, ◌≤◌, true, false, cond, ◌≢◌, ◌⊎◌, List, length, get_or, set, count_by, sym, refl, ap, ◌∙◌, subst, inl, inr, ⊎_elim, arith}
use Rattle.rows.specs.Rows.{handle_free, block_free, writable, blocked, block_of, start_of, len_of, extent_of, lone, names, place_of, size_of, lowered, raised}
use Rattle.rows.specs.declared.block.BlockRow.TheVariants as block
use Rattle.rows.specs.declared.handle.HandleRow.{HandleRow}
use Rattle.rows.specs.declared.handle.HandleRow.TheVariants as row
use Rattle.std.proofs.lemmas.List.{get_or-set_other, get_or-set_same, length-set}
use Rattle.std.proofs.lemmas.Bool.{cases_eq, cond_both, cond-true, false≢true, true≢false}
use Rattle.table.proofs.Sets.{at_set, count_set, pairs_set}
use Rattle.table.proofs.SoundSteps.{Alike, Clear, Within, apart_none, apart_reads, block_live, block_under, blocked_live, blocked_row, clear_within, free_unblocked, live_opened, live_row, lone_blocked, lowered_same, names_none, names_same, raised_same, sound_attach, sound_detach, sound_put, sound_reshape, two, unblocked_reads}
use Rattle.table.specs.Soundness.{Apart, Fits, InHandle, Sound}
use Rattle.table.specs.Tables.{attach, block_at, detach, handle_at, with_block, with_handle}
use Rattle.table.specs.declared.table.Table.{Table}

-- the handles g and h share what the handle of row i had: neither has the block to itself, and they have no position in common if they write
pub record Shares (t : Table) (i : ℕ) (g h : HandleRow) : Type 0 where
  pub first : Within (handle_at t i) g
  pub second : Within (handle_at t i) h
  pub first_shared : lone g ≡ false
  pub second_shared : lone h ≡ false
  pub first_shows : len_of g ≤ extent_of g
  pub second_shows : len_of h ≤ extent_of h
  pub apart : writable h ≡ true → (p : ℕ) → InHandle p g → InHandle p h → ⊥

module _ (t : Table) (i j : ℕ) (g h : HandleRow) (s : Sound t) (lj : j < 64) (free : handle_free (handle_at t j) ≡ true) (over : blocked (handle_at t i) ≡ true) (w : Shares t i g h) where
  -- row i's handle as g
  abbrev cut : Table
  cut = with_handle t i g

  rows_differ : i ≢ j
  rows_differ e = true≢false (sym free ∙ ap (λ k. handle_free (handle_at t k)) (sym e) ∙ blocked_live (handle_at t i) over)

  within : i < length t.handles
  within = omega (arith, s.rows, blocked_row s i over)

  pub cut_sound : Sound (with_handle t i g)
  cut_sound =
      sound_reshape t i g s (blocked_live (handle_at t i) over) w.first (λ q. absurd (true≢false (sym q ∙ w.first_shared))) (λ q. absurd (true≢false (sym q ∙ w.first_shared))) w.first_shows

  second_fits : Fits t.fixed h (raised (block_at t (block_of h)))
  second_fits =
      let f = s.fits i in
      let same = raised_same (block_at t (block_of h)) in
      let at = ap (block_at t) w.second.on in
      let place = ap place_of at in
      let size = ap size_of at in
      record {
        shows = w.second_shows;
        views = (λ _ q. absurd (true≢false (sym over ∙ sym w.second.over ∙ q)));
        known = (λ _. omega (arith, f.known over, w.second.on));
        from = (λ _. omega (arith, f.from over, w.second.from));
        to = (λ _. omega (arith, f.to over, w.second.to));
        alone = (λ q. absurd (true≢false (sym q ∙ w.second_shared)));
        whole = (λ q. absurd (true≢false (sym q ∙ w.second_shared)));
      }

  -- no handle has the block to itself
  none_alone : (k : ℕ) → lone (handle_at cut k) ≡ true → block_of (handle_at cut k) ≢ block_of h
  none_alone =
      at_set t.handles i g row.Free (λ _ x. lone x ≡ true → block_of x ≢ block_of h) within
      (λ q. absurd (true≢false (sym q ∙ w.first_shared)))
      (λ k ne q e.
      let f = s.fits k in
      let l = lone_blocked (handle_at t k) q in
      let c = two s k i ne l over (e ∙ w.second.on) in
      omega (arith, f.alone q))

  second_clear : Clear cut j h
  second_clear =
      let clear = clear_within t i h s w.second in
      let writes = w.second.writes ∙ sym w.first.writes in
      record {
        away = (λ k _. at_set t.handles i g row.Free (λ _ x. Apart h x) within (record { no = (λ p q _ _ x y. w.apart q p y x) }) (λ k ne. clear.away k ne) k);
        back = (λ k _. at_set t.handles i g row.Free (λ _ x. Apart x h) within (record { no = (λ p q _ _ x y. w.apart (writes ∙ q) p x y) }) (λ k ne. clear.back k ne) k);
        alike = (λ k _. at_set t.handles i g row.Free (λ _ x. Alike h x) within (λ _ _ _. writes) (λ k ne. clear.alike k ne) k);
      }

  -- row i's handle becomes g, and h goes into the free row j
  pub sound_shared : Sound (attach (with_handle t i g) j h)
  sound_shared =
      let was = get_or-set_other t.handles i j g row.Free (λ e. rows_differ (sym e)) in
      sound_attach cut j h cut_sound lj (ap handle_free was ∙ free) (w.second.over ∙ over)
      (subst (λ b. block_free (block_at t b) ≡ false) (sym w.second.on) (block_live s i over))
      second_fits none_alone second_clear

-- The handle of row j in the free row i, and in its place g, which is over no block.

module _ (t : Table) (i j : ℕ) (g : HandleRow) (s : Sound t) (li : i < 64) (free : handle_free (handle_at t i) ≡ true) (live : handle_free (handle_at t j) ≡ false) (unblocked : blocked g ≡ false) (fit : Fits t.fixed g (block_at t (block_of g))) where
  h : HandleRow
  h = handle_at t j

  left : List HandleRow
  left = set t.handles j g

  j_within : j < length t.handles
  j_within = omega (arith, s.rows, live_row s j live)

  i_within : i < length left
  unfolding left
  i_within = omega (arith, s.rows, length-set t.handles j g)

  i_was : get_or left i row.Free ≡ handle_at t i
  unfolding left
  i_was = get_or-set_other t.handles j i g row.Free (λ e. true≢false (sym free ∙ ap (λ k. handle_free (handle_at t k)) e ∙ live))

  -- what holds of each two rows, and of g with any row, holds of each two rows then
  pairs : (R : HandleRow → HandleRow → Type 0) → ((x : HandleRow) → R g x) → ((x : HandleRow) → R x g) → ((a b : ℕ) → a ≢ b → R (handle_at t a) (handle_at t b)) → (a b : ℕ) → a ≢ b → R (get_or (set left i h) a row.Free) (get_or (set left i h) b row.Free)
  unfolding left h
  pairs R before behind all =
      pairs_set left i h row.Free R i_within
      (λ k _. at_set t.handles j g row.Free (λ _ x. R h x) j_within (behind h) (λ k ne. all j k (λ e. ne (sym e))) k)
      (λ k _. at_set t.handles j g row.Free (λ _ x. R x h) j_within (before h) (λ k ne. all k j ne) k)
      (pairs_set t.handles j g row.Free R j_within (λ k _. before (handle_at t k)) (λ k _. behind (handle_at t k)) all)

  same_count : (b : ℕ) → count_by (names b) (set left i h) ≡ count_by (names b) t.handles
  unfolding left h
  same_count b =
      omega (arith, count_set (names b) t.handles j g row.Free j_within, count_set (names b) left i h row.Free i_within, ap (λ x. cond {A = ℕ} x 1 0) (names_none b g unblocked), ap (λ x. cond {A = ℕ} x 1 0) (ap (names b) i_was ∙ names_none b (handle_at t i) (free_unblocked (handle_at t i) free)))

  pub sound_passed_on : Sound (with_handle (with_handle t j g) i (handle_at t j))
  unfolding left h
  sound_passed_on =
      record {
        small = s.small;
        ordered = s.ordered;
        rows = length-set left i h ∙ length-set t.handles j g ∙ s.rows;
        blocks = s.blocks;
        shut = (λ z. absurd (true≢false (sym (live_opened s j live) ∙ z)));
        fits = at_set left i h row.Free (λ _ x. Fits t.fixed x (block_at t (block_of x))) i_within (s.fits j)
            (λ k _. at_set t.handles j g row.Free (λ _ x. Fits t.fixed x (block_at t (block_of x))) j_within fit (λ k _. s.fits k) k);
        apart = pairs Apart (λ _. apart_reads (unblocked_reads g unblocked)) (λ _. apart_none unblocked) s.apart;
        one_type = (λ a b. elim (cases_eq a b) [
          | inl e ↦ (λ _ _ _. ap (λ q. writable (get_or (set left i h) q row.Free)) e)
          | inr ne ↦ pairs Alike (λ _ l. absurd (true≢false (sym l ∙ unblocked))) (λ _ _ l. absurd (true≢false (sym l ∙ unblocked))) (λ a b _. s.one_type a b) a b ne
        ]);
        counts = (λ b l. s.counts b l ∙ sym (same_count b));
        placed = s.placed;
        blocks_apart = s.blocks_apart;
      }

-- The handle of row i with what the handle of row j, over the same block, held, and row j freed.

-- h holds what the handles of rows i and j hold, and no more
pub record Unites (t : Table) (i j : ℕ) (h : HandleRow) : Type 0 where
  pub over : blocked h ≡ true
  pub on : block_of h ≡ block_of (handle_at t i)
  pub writes : writable h ≡ writable (handle_at t i)
  pub shared : lone h ≡ false
  pub shows : len_of h ≤ extent_of h
  pub from : start_of (handle_at t i) ≤ start_of h
  pub to : start_of h + extent_of h ≤ start_of (handle_at t j) + extent_of (handle_at t j)
  pub parts : (p : ℕ) → InHandle p h → InHandle p (handle_at t i) ⊎ InHandle p (handle_at t j)

module _ (t : Table) (i j : ℕ) (u : HandleRow) (s : Sound t) (ne : i ≢ j) (oi : blocked (handle_at t i) ≡ true) (oj : blocked (handle_at t j) ≡ true) (on : block_of (handle_at t j) ≡ block_of (handle_at t i)) (w : Unites t i j u) where
  -- row j freed
  ended : Table
  ended = with_handle (with_block t (block_of (handle_at t j)) (lowered (block_under t j))) j row.Free

  ended_is : detach t j ≡ ended
  unfolding ended
  ended_is = ap (λ x. with_handle x j row.Free) (cond-true (blocked (handle_at t j)) (with_block t (block_of (handle_at t j)) (lowered (block_under t j))) t oj)

  ended_sound : Sound ended
  ended_sound = subst Sound ended_is (sound_detach t j s (blocked_live (handle_at t j) oj))

  ended_rows : (k : ℕ) → k ≢ j → handle_at ended k ≡ handle_at t k
  unfolding ended
  ended_rows k other = get_or-set_other t.handles j k row.Free row.Free other

  -- what holds of a free row, and of each other row as it was, holds of every row
  ended_each : (P : ℕ → HandleRow → Type 0) → P j row.Free → ((k : ℕ) → k ≢ j → P k (handle_at t k)) → (k : ℕ) → P k (handle_at ended k)
  unfolding ended
  ended_each P none all = at_set t.handles j row.Free row.Free P (omega (arith, s.rows, blocked_row s j oj)) none all

  ended_block : (c : ℕ) → c ≡ block_of (handle_at t j) → block_at ended c ≡ lowered (block_at t c)
  unfolding ended
  ended_block c e =
      ap (λ x. block_at ended x) e ∙ get_or-set_same t.blocks (block_of (handle_at t j)) (lowered (block_under t j)) block.Free (omega (arith, s.blocks, (s.fits j).known oj)) ∙ ap (λ x. lowered (block_at t x)) (sym e)

  united_fits : Fits t.fixed u (block_at ended (block_of u))
  united_fits =
      let first = s.fits i in
      let second = s.fits j in
      let here = w.on ∙ sym on in
      let same = lowered_same (block_under t i) (two s i j ne oi oj (sym on)) in
      let at : block_at ended (block_of u) ≡ lowered (block_under t i) = ended_block (block_of u) here ∙ ap (λ c. lowered (block_at t c)) w.on in
      let other = ap (block_at t) on in
      let place = ap place_of other in
      let size = ap size_of other in
      subst (Fits t.fixed u) (sym at) (record {
        shows = w.shows;
        views = (λ _ q. absurd (true≢false (sym w.over ∙ q)));
        known = (λ _. omega (arith, first.known oi, w.on));
        from = (λ _. omega (arith, first.from oi, w.from));
        to = (λ _. omega (arith, second.to oj, w.to));
        alone = (λ q. absurd (true≢false (sym q ∙ w.shared)));
        whole = (λ q. absurd (true≢false (sym q ∙ w.shared)));
      })

  united_clear : Clear ended i u
  united_clear =
      let alike = s.one_type j i oj oi on in
      record {
        away = (λ k. ended_each (λ k x. k ≢ i → Apart u x) (λ _. apart_none refl) (λ k nj ni. record {
          no = (λ p q l e x y.
              ⊎_elim
              (λ a. (s.apart i k (λ z. ni (sym z))).no p (sym w.writes ∙ q) l (sym w.on ∙ e) a y)
              (λ b. (s.apart j k (λ z. nj (sym z))).no p (alike ∙ sym w.writes ∙ q) l (on ∙ sym w.on ∙ e) b y)
              (w.parts p x));
        }) k);
        back = (λ k. ended_each (λ k x. k ≢ i → Apart x u) (λ _. apart_reads refl) (λ k nj ni. record {
          no = (λ p q _ e x y.
              ⊎_elim
              (λ a. (s.apart k i ni).no p q oi (e ∙ w.on) x a)
              (λ b. (s.apart k j nj).no p q oj (e ∙ w.on ∙ sym on) x b)
              (w.parts p y));
        }) k);
        alike = (λ k. ended_each (λ k x. k ≢ i → Alike u x) (λ _ _ l. absurd (false≢true l)) (λ k _ _ _ l e. w.writes ∙ s.one_type i k oi l (sym w.on ∙ e)) k);
      }

  pub sound_united : Sound (with_handle (detach t j) i u)
  unfolding ended
  sound_united =
      let live = blocked_live (handle_at t i) oi in
      subst (λ x. Sound (with_handle x i u)) (sym ended_is)
      (sound_put ended i u ended_sound (live_opened s i live) (live_row s i live)
      (λ b. names_same b (handle_at t i) u (w.over ∙ sym oi) w.on ∙ ap (names b) (sym (ended_rows i ne)))
      united_fits united_clear)

-- The rows of a table in which one was freed.

pub detached_elsewhere : (t : Table) (i j : ℕ) → j ≢ i → handle_at (detach t i) j ≡ handle_at t j
detached_elsewhere t i j ne =
    cond_both (blocked (handle_at t i)) (with_block t (block_of (handle_at t i)) (lowered (block_under t i))) t (λ u. handle_at (with_handle u i row.Free) j ≡ handle_at t j)
    (λ _. get_or-set_other t.handles i j row.Free row.Free ne)
    (λ _. get_or-set_other t.handles i j row.Free row.Free ne)

pub detached_here : (t : Table) (i : ℕ) → i < length t.handles → handle_at (detach t i) i ≡ row.Free
detached_here t i l =
    cond_both (blocked (handle_at t i)) (with_block t (block_of (handle_at t i)) (lowered (block_under t i))) t (λ u. handle_at (with_handle u i row.Free) i ≡ row.Free)
    (λ _. get_or-set_same t.handles i row.Free row.Free l)
    (λ _. get_or-set_same t.handles i row.Free row.Free l)
