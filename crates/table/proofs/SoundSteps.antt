-- Each way of changing rows keeps a table sound.
use Rattle.std.proofs.Common.{◌≡◌, ℕ, ◌+◌, ◌-◌, ◌<◌, ◌≤◌, Bool, true, false, cond, ◌&&◌, eqb, leb, ◌≢◌, length, get_or, set, count_by, sym, refl, ap, ◌∙◌, subst, inl, inr, arith}
use Rattle.std.proofs.lemmas.List.{get_or_past, get_or-set_same, length-set, set-get_or}
use Rattle.std.proofs.lemmas.List.Sums.{count_by-le-length, get_or-le-sum_by}
use Rattle.std.proofs.lemmas.Bool.{cases_Bool, cases_eq, cases_lt, cond_both, eq-eqb, false≢true, leb-false, leb-true, ne_eqb, true≢false}
use Rattle.table.proofs.Sets.{at_set, count_none, count_set, count_two, pairs_set, row_replicate}
use Rattle.rows.specs.Rows.{handle_free, block_free, writable, kind_blocked, blocked, block_of, start_of, len_of, extent_of, kind_alone, lone, names, place_of, size_of, count_of, raised, lowered}
use Rattle.table.specs.Soundness.{InBlock, Fits, Apart, Placed, Sound, RoomAt}
use Rattle.table.specs.Tables.{handle_at, block_at, with_handle, with_block, new_table, opened_table, attach, detach, settle}
use Rattle.rows.specs.declared.block.Block.{Block}
use Rattle.rows.specs.declared.block.BlockRow.{BlockRow}
use Rattle.rows.specs.declared.block.BlockRow.TheVariants as block
use Rattle.rows.specs.declared.handle.HandleRow.{HandleRow}
use Rattle.rows.specs.declared.handle.HandleRow.TheVariants as row
use Rattle.rows.specs.declared.handle.ReadOnlyKind.{ReadOnlyKind}
use Rattle.rows.specs.declared.handle.ReadOnlyKind.TheVariants.{Static, PromotableAlone, PromotableCounted, Shared}
use Rattle.table.specs.declared.table.Table.{Table}

-- What a row tells of itself.

kind_alone_blocked : (k : ReadOnlyKind) → kind_alone k ≡ true → kind_blocked k ≡ true
kind_alone_blocked Static z = z
kind_alone_blocked (PromotableAlone b) z = refl
kind_alone_blocked (PromotableCounted b) z = refl
kind_alone_blocked (Shared b) z = refl

pub lone_blocked : (h : HandleRow) → lone h ≡ true → blocked h ≡ true
lone_blocked row.Free z = z
lone_blocked (row.Writable h) z = refl
lone_blocked (row.ReadOnly h) z = kind_alone_blocked h.kind z

pub writable_blocked : (h : HandleRow) → writable h ≡ true → blocked h ≡ true
writable_blocked row.Free z = z
writable_blocked (row.Writable h) z = refl
writable_blocked (row.ReadOnly h) z = absurd (false≢true z)

pub blocked_live : (h : HandleRow) → blocked h ≡ true → handle_free h ≡ false
blocked_live row.Free z = sym z
blocked_live (row.Writable h) z = refl
blocked_live (row.ReadOnly h) z = refl

pub free_unblocked : (h : HandleRow) → handle_free h ≡ true → blocked h ≡ false
free_unblocked row.Free z = refl
free_unblocked (row.Writable h) z = sym z
free_unblocked (row.ReadOnly h) z = absurd (false≢true z)

pub unblocked_reads : (h : HandleRow) → blocked h ≡ false → writable h ≡ false
unblocked_reads row.Free z = refl
unblocked_reads (row.Writable h) z = z
unblocked_reads (row.ReadOnly h) z = refl

pub free_handle_is : (h : HandleRow) → handle_free h ≡ true → h ≡ row.Free
free_handle_is row.Free z = refl
free_handle_is (row.Writable h) z = absurd (false≢true z)
free_handle_is (row.ReadOnly h) z = absurd (false≢true z)

pub free_block_is : (x : BlockRow) → block_free x ≡ true → x ≡ block.Free
free_block_is block.Free z = refl
free_block_is (block.Live b) z = absurd (false≢true z)

pub counted_live : (x : BlockRow) → 0 < count_of x → block_free x ≡ false
counted_live block.Free l = absurd (omega arith)
counted_live (block.Live b) l = refl

-- Whether a handle names a block.

abbrev one : Bool → ℕ
one b = cond b 1 0

pub names_blocked : (b : ℕ) (h : HandleRow) → blocked h ≡ true → names b h ≡ eqb (block_of h) b
names_blocked b h l = ap (λ (x : Bool). x && eqb (block_of h) b) l

pub names_own : (b : ℕ) (h : HandleRow) → blocked h ≡ true → block_of h ≡ b → names b h ≡ true
names_own b h l e = names_blocked b h l ∙ eq-eqb (block_of h) b e

pub names_other : (b : ℕ) (h : HandleRow) → blocked h ≡ true → block_of h ≢ b → names b h ≡ false
names_other b h l ne = names_blocked b h l ∙ ne_eqb (block_of h) b ne

pub names_none : (b : ℕ) (h : HandleRow) → blocked h ≡ false → names b h ≡ false
names_none b h l = ap (λ (x : Bool). x && eqb (block_of h) b) l

-- What a sound table tells of its rows.

-- the block row of the handle in row i
abbrev pub block_under : Table → ℕ → BlockRow
block_under t i = block_at t (block_of (handle_at t i))

pub live_row : {t : Table} → Sound t → (i : ℕ) → handle_free (handle_at t i) ≡ false → i < 64
live_row {t} s i l = elim (cases_lt i 64) [ inl h ↦ h | inr h ↦ absurd (true≢false (sym (ap handle_free (get_or_past t.handles i row.Free (omega (arith, s.rows)))) ∙ l)) ]

pub blocked_row : {t : Table} → Sound t → (i : ℕ) → blocked (handle_at t i) ≡ true → i < 64
blocked_row {t} s i l = live_row s i (blocked_live (handle_at t i) l)

pub live_opened : {t : Table} → Sound t → (i : ℕ) → handle_free (handle_at t i) ≡ false → t.opened ≡ true
live_opened {t} s i l = elim (cases_Bool t.opened) [ inl o ↦ o | inr o ↦ absurd (true≢false (sym (s.shut o i) ∙ l)) ]

-- the block of a handle has a count
pub held : {t : Table} → Sound t → (i : ℕ) → blocked (handle_at t i) ≡ true → 0 < count_of (block_under t i)
held {t} s i l =
    let b = block_of (handle_at t i) in
    let within : i < length t.handles = omega (arith, s.rows, blocked_row s i l) in
    omega (arith, get_or-le-sum_by (λ x. one (names b x)) t.handles i row.Free within, s.counts b ((s.fits i).known l), ap one (names_own b (handle_at t i) l refl))

pub block_live : {t : Table} → Sound t → (i : ℕ) → blocked (handle_at t i) ≡ true → block_free (block_under t i) ≡ false
block_live {t} s i l = counted_live (block_under t i) (held s i l)

-- two handles on one block are two
pub two : {t : Table} → Sound t → (i j : ℕ) → i ≢ j → blocked (handle_at t i) ≡ true → blocked (handle_at t j) ≡ true → block_of (handle_at t i) ≡ block_of (handle_at t j) → 2 ≤ count_of (block_under t i)
two {t} s i j ne l m e =
    let b = block_of (handle_at t i) in
    let li : i < length t.handles = omega (arith, s.rows, blocked_row s i l) in
    let lj : j < length t.handles = omega (arith, s.rows, blocked_row s j m) in
    let c = count_two (names b) t.handles i j row.Free row.Free li lj ne (names_own b (handle_at t i) l refl) (names_own b (handle_at t j) m (sym e)) refl in
    omega (arith, c, s.counts b ((s.fits i).known l))

-- a free block row has no handle
pub unheld : {t : Table} → Sound t → (b : ℕ) → block_free (block_at t b) ≡ true → (i : ℕ) → blocked (handle_at t i) ≡ true → block_of (handle_at t i) ≢ b
unheld {t} s b z i l e = true≢false (sym z ∙ ap (λ x. block_free (block_at t x)) (sym e) ∙ block_live s i l)

-- a handle on a block of count 1 is its only one
pub alone : {t : Table} → Sound t → (i : ℕ) → blocked (handle_at t i) ≡ true → count_of (block_under t i) ≡ 1 → (j : ℕ) → j ≢ i → blocked (handle_at t j) ≡ true → block_of (handle_at t i) ≢ block_of (handle_at t j)
alone s i l e j ne m q = let c = two s i j (λ x. ne (sym x)) l m q in omega (arith, c, e)

-- a live handle ends inside the positions that the table divides
pub ends_inside : {t : Table} → Sound t → (i : ℕ) → handle_free (handle_at t i) ≡ false → start_of (handle_at t i) + extent_of (handle_at t i) ≤ t.limit
ends_inside {t} s i l =
    let f = s.fits i in
    elim (cases_Bool (blocked (handle_at t i))) [ inl b ↦ omega (arith, f.to b, (s.placed (block_of (handle_at t i))).high) | inr b ↦ omega (arith, f.views l b, s.ordered) ]

-- beside a free handle row no count is 64
pub count_below : {t : Table} → Sound t → (j b : ℕ) → j < 64 → handle_free (handle_at t j) ≡ true → b < 32 → count_of (block_at t b) < 64
count_below {t} s j b lj free lb =
    let hs = t.handles in
    let y = row.ReadOnly (record { kind = Shared b; start = 0; len = 0 }) in
    let within : j < length hs = omega (arith, s.rows) in
    omega (arith, s.counts b lb, s.rows, count_set (names b) hs j y row.Free within, ap one (names_own b y refl refl), ap one (names_none b (handle_at t j) (free_unblocked (handle_at t j) free)), count_by-le-length (names b) (set hs j y), length-set hs j y)

-- in a table that is not opened every block row is free
pub shut_blocks : {t : Table} → Sound t → t.opened ≡ false → (b : ℕ) → block_free (block_at t b) ≡ true
shut_blocks {t} s o b =
    elim (cases_Bool (block_free (block_at t b))) [
      | inl f ↦ f
      | inr l ↦ elim (cases_lt b 32) [
        | inl lb ↦ absurd (omega (arith, (s.placed b).counted l, s.counts b lb, count_none (names b) t.handles row.Free (λ i. names_none b (handle_at t i) (free_unblocked (handle_at t i) (s.shut o i)))))
        | inr lb ↦ ap block_free (get_or_past t.blocks b block.Free (omega (arith, s.blocks)))
      ]
    ]

-- Rows that fit, and rows that are apart.

-- block rows at one place, of one size
abbrev pub Same : BlockRow → BlockRow → Type 0
Same x y = (place_of x ≡ place_of y) × (size_of x ≡ size_of y)

-- a handle that fits a block row fits one with the same block
fits_same : {fixed : ℕ} {h : HandleRow} {x y : BlockRow} → Fits fixed h x → (blocked h ≡ true → Same y x) → (lone h ≡ true → count_of y ≡ count_of x) → Fits fixed h y
fits_same {fixed} {h} {x} {y} f same count =
    record {
      shows = f.shows;
      views = f.views;
      known = f.known;
      from = (λ q. omega (arith, f.from q, same q));
      to = (λ q. omega (arith, f.to q, same q));
      alone = (λ q. count q ∙ f.alone q);
      whole = (λ q. omega (arith, f.whole q, same (lone_blocked h q)));
    }

-- a handle over no block fits any
fits_none : {fixed : ℕ} {h : HandleRow} (x y : BlockRow) → blocked h ≡ false → Fits fixed h x → Fits fixed h y
fits_none {fixed} {h} x y e f =
    let never = λ (q : blocked h ≡ true). true≢false (sym q ∙ e) in
    fits_same f (λ q. absurd (never q)) (λ q. absurd (never (lone_blocked h q)))

pub fits_free : (fixed : ℕ) (x : BlockRow) → Fits fixed row.Free x
fits_free fixed x = record { shows = omega arith; views = (λ z. absurd (true≢false z)); known = (λ z. absurd (false≢true z)); from = (λ z. absurd (false≢true z)); to = (λ z. absurd (false≢true z)); alone = (λ z. absurd (false≢true z)); whole = (λ z. absurd (false≢true z)) }

pub apart_reads : {g h : HandleRow} → writable g ≡ false → Apart g h
apart_reads e = record { no = (λ p w. absurd (true≢false (sym w ∙ e))) }

pub apart_none : {g h : HandleRow} → blocked h ≡ false → Apart g h
apart_none e = record { no = (λ p _ l. absurd (true≢false (sym l ∙ e))) }

-- handles over one block both write, or both read
abbrev pub Alike : HandleRow → HandleRow → Type 0
Alike g h = blocked g ≡ true → blocked h ≡ true → block_of g ≡ block_of h → writable g ≡ writable h

-- block rows without a position in common
abbrev pub BlocksApart : BlockRow → BlockRow → Type 0
BlocksApart x y = (p : ℕ) → InBlock p x → InBlock p y → ⊥

-- h may stand in row i beside the other handles
pub record Clear (t : Table) (i : ℕ) (h : HandleRow) : Type 0 where
  pub away : (j : ℕ) → j ≢ i → Apart h (handle_at t j)
  pub back : (j : ℕ) → j ≢ i → Apart (handle_at t j) h
  pub alike : (j : ℕ) → j ≢ i → Alike h (handle_at t j)

-- a handle over no block is in no other's way
pub clear_none : (t : Table) (i : ℕ) (h : HandleRow) → blocked h ≡ false → Clear t i h
clear_none t i h e = record { away = (λ j _. apart_reads (unblocked_reads h e)); back = (λ j _. apart_none e); alike = (λ j _ l. absurd (true≢false (sym l ∙ e))) }

-- nor is a handle on whose block there is no other
pub clear_alone : (t : Table) (i : ℕ) (h : HandleRow) → ((j : ℕ) → j ≢ i → blocked (handle_at t j) ≡ true → block_of h ≢ block_of (handle_at t j)) → Clear t i h
clear_alone t i h none =
    record {
      away = (λ j ne. record { no = (λ p _ l e. absurd (none j ne l e)) });
      back = (λ j ne. record { no = (λ p w _ e. absurd (none j ne (writable_blocked (handle_at t j) w) (sym e))) });
      alike = (λ j ne _ l e. absurd (none j ne l e));
    }

-- h is the handle g, or g with less of its front or its end
pub record Within (g h : HandleRow) : Type 0 where
  pub over : blocked h ≡ blocked g
  pub on : block_of h ≡ block_of g
  pub writes : writable h ≡ writable g
  pub from : start_of g ≤ start_of h
  pub to : start_of h + extent_of h ≤ start_of g + extent_of g

-- nor is the row's own handle with less of it
pub clear_within : (t : Table) (i : ℕ) (h : HandleRow) → Sound t → Within (handle_at t i) h → Clear t i h
clear_within t i h s w =
    record {
      away = (λ j ne. record { no = (λ p q l e x y. (s.apart i j (λ z. ne (sym z))).no p (sym w.writes ∙ q) l (sym w.on ∙ e) (omega arith) y) });
      back = (λ j ne. record { no = (λ p q l e x y. (s.apart j i ne).no p q (sym w.over ∙ l) (e ∙ w.on) x (omega arith)) });
      alike = (λ j ne l m e. w.writes ∙ s.one_type i j (sym w.over ∙ l) m (sym w.on ∙ e));
    }

-- Handle row i and block row b changed.

-- h may stand in handle row i, and x in block row b
record Changes (t : Table) (i b : ℕ) (h : HandleRow) (x : BlockRow) : Type 0 where
  fit : Fits t.fixed h (block_at (with_block t b x) (block_of h))
  others : (k : ℕ) → k ≢ i → blocked (handle_at t k) ≡ true → block_of (handle_at t k) ≡ b → Fits t.fixed (handle_at t k) x
  clear : Clear t i h
  count : count_of x + one (names b (handle_at t i)) ≡ count_of (block_at t b) + one (names b h)
  counts : (c : ℕ) → c ≢ b → names c h ≡ names c (handle_at t i)
  placed : Placed t.fixed t.limit x
  room : (c : ℕ) → c ≢ b → BlocksApart x (block_at t c)

sound_changed : (t : Table) (i b : ℕ) (h : HandleRow) (x : BlockRow) → Sound t → t.opened ≡ true → i < 64 → b < 32 → Changes t i b h x → Sound (with_handle (with_block t b x) i h)
sound_changed t i b h x s o li lb c =
    let hs = t.handles in
    let bs = t.blocks in
    let ih : i < length hs = omega (arith, s.rows) in
    let bl : b < length bs = omega (arith, s.blocks) in
    record {
      small = s.small;
      ordered = s.ordered;
      rows = length-set hs i h ∙ s.rows;
      blocks = length-set bs b x ∙ s.blocks;
      shut = (λ z. absurd (true≢false (sym o ∙ z)));
      fits = at_set hs i h row.Free (λ _ g. Fits t.fixed g (block_at (with_block t b x) (block_of g))) ih c.fit
          (λ k ne. elim (cases_Bool (blocked (handle_at t k))) [
            | inl l ↦ at_set bs b x block.Free (λ d y. block_of (handle_at t k) ≡ d → Fits t.fixed (handle_at t k) y) bl (c.others k ne l) (λ d _ e. subst (λ q. Fits t.fixed (handle_at t k) (block_at t q)) e (s.fits k)) (block_of (handle_at t k)) refl
            | inr l ↦ fits_none _ _ l (s.fits k)
          ]);
      apart = pairs_set hs i h row.Free Apart ih c.clear.away c.clear.back s.apart;
      one_type = (λ j k. elim (cases_eq j k) [
        | inl e ↦ (λ _ _ _. ap (λ q. writable (get_or (set hs i h) q row.Free)) e)
        | inr ne ↦ pairs_set hs i h row.Free Alike ih c.clear.alike (λ d nd l m e. sym (c.clear.alike d nd m l (sym e))) (λ d q _. s.one_type d q) j k ne
      ]);
      counts = at_set bs b x block.Free (λ d y. d < 32 → count_of y ≡ count_by (names d) (set hs i h)) bl
          (λ _. omega (arith, s.counts b lb, count_set (names b) hs i h row.Free ih, c.count))
          (λ d ne ld. omega (arith, s.counts d ld, count_set (names d) hs i h row.Free ih, ap one (c.counts d ne)));
      placed = at_set bs b x block.Free (λ _ y. Placed t.fixed t.limit y) bl c.placed (λ d _. s.placed d);
      blocks_apart = pairs_set bs b x block.Free BlocksApart bl c.room (λ d ne p y z. c.room d ne p z y) s.blocks_apart;
    }

-- Handle row i alone changed.

-- another handle in a row, that names the block that the row named
pub sound_put : (t : Table) (i : ℕ) (h : HandleRow) → Sound t → t.opened ≡ true → i < 64 → ((b : ℕ) → names b h ≡ names b (handle_at t i)) → Fits t.fixed h (block_at t (block_of h)) → Clear t i h → Sound (with_handle t i h)
sound_put t i h s o li same fit clear =
    let back = set-get_or t.blocks 0 block.Free in
    subst (λ bs. Sound (record { number = t.number; opened = t.opened; fixed = t.fixed; limit = t.limit; handles = set t.handles i h; blocks = bs })) back
    (sound_changed t i 0 h (block_at t 0) s o li (omega arith) (record {
      fit = subst (λ bs. Fits t.fixed h (get_or bs (block_of h) block.Free)) (sym back) fit;
      others = (λ k _ _ e. subst (λ q. Fits t.fixed (handle_at t k) (block_at t q)) e (s.fits k));
      clear = clear;
      count = omega (arith, ap one (same 0));
      counts = (λ c _. same c);
      placed = s.placed 0;
      room = (λ c ne. s.blocks_apart 0 c (λ e. ne (sym e)));
    }))

-- a handle over no block, where none over a block was
pub sound_unblocked : (t : Table) (i : ℕ) (h : HandleRow) → Sound t → t.opened ≡ true → i < 64 → blocked (handle_at t i) ≡ false → blocked h ≡ false → Fits t.fixed h (block_at t (block_of h)) → Sound (with_handle t i h)
sound_unblocked t i h s o li was is fit = sound_put t i h s o li (λ b. names_none b h is ∙ sym (names_none b (handle_at t i) was)) fit (clear_none t i h is)

pub names_same : (b : ℕ) (g h : HandleRow) → blocked h ≡ blocked g → block_of h ≡ block_of g → names b h ≡ names b g
names_same b g h over on = ap (λ x. x && eqb (block_of h) b) over ∙ ap (λ n. blocked g && eqb n b) on

-- a handle with less of its front or its end
pub sound_reshape : (t : Table) (i : ℕ) (h : HandleRow) → Sound t → handle_free (handle_at t i) ≡ false → Within (handle_at t i) h → (lone h ≡ true → lone (handle_at t i) ≡ true) → (lone h ≡ true → start_of h + extent_of h ≡ start_of (handle_at t i) + extent_of (handle_at t i)) → len_of h ≤ extent_of h → Sound (with_handle t i h)
sound_reshape t i h s l w lone-was end shows =
    let f = s.fits i in
    sound_put t i h s (live_opened s i l) (live_row s i l) (λ b. names_same b (handle_at t i) h w.over w.on)
    (subst (λ b. Fits t.fixed h (block_at t b)) (sym w.on) (record {
      shows = shows;
      views = (λ _ q. omega (arith, f.views l (sym w.over ∙ q)));
      known = (λ q. omega (arith, f.known (sym w.over ∙ q)));
      from = (λ q. omega (arith, f.from (sym w.over ∙ q)));
      to = (λ q. omega (arith, f.to (sym w.over ∙ q)));
      alone = (λ q. f.alone (lone-was q));
      whole = (λ q. end q ∙ f.whole (lone-was q));
    }))
    (clear_within t i h s w)

-- the only handle of a block, anywhere in that block
pub sound_grown_in_place : (t : Table) (i : ℕ) (h : HandleRow) → Sound t → blocked (handle_at t i) ≡ true → blocked h ≡ true → block_of h ≡ block_of (handle_at t i) → count_of (block_under t i) ≡ 1 → place_of (block_under t i) ≤ start_of h → start_of h + extent_of h ≤ place_of (block_under t i) + size_of (block_under t i) → (lone h ≡ true → start_of h + extent_of h ≡ place_of (block_under t i) + size_of (block_under t i)) → len_of h ≤ extent_of h → Sound (with_handle t i h)
sound_grown_in_place t i h s was is on single from to whole shows =
    let l = blocked_live (handle_at t i) was in
    sound_put t i h s (live_opened s i l) (live_row s i l) (λ b. names_same b (handle_at t i) h (is ∙ sym was) on)
    (subst (λ b. Fits t.fixed h (block_at t b)) (sym on) (record {
      shows = shows;
      views = (λ _ q. absurd (true≢false (sym is ∙ q)));
      known = (λ _. omega (arith, (s.fits i).known was));
      from = (λ _. from);
      to = (λ _. to);
      alone = (λ _. single);
      whole = whole;
    }))
    (clear_alone t i h (λ j ne m e. alone s i was single j ne m (sym on ∙ e)))

-- Every row free.

sound_empty : (t : Table) → t.limit ≤ 16777216 → t.fixed ≤ t.limit → length t.handles ≡ 64 → length t.blocks ≡ 32 → ((i : ℕ) → handle_free (handle_at t i) ≡ true) → ((b : ℕ) → block_free (block_at t b) ≡ true) → Sound t
sound_empty t small ordered rows blocks handles-free blocks-free =
    let unblocked = λ (i : ℕ). free_unblocked (handle_at t i) (handles-free i) in
    let none = λ (b : ℕ). free_block_is (block_at t b) (blocks-free b) in
    record {
      small = small;
      ordered = ordered;
      rows = rows;
      blocks = blocks;
      shut = (λ _. handles-free);
      fits = (λ i. subst (λ h. Fits t.fixed h (block_at t (block_of h))) (sym (free_handle_is (handle_at t i) (handles-free i))) (fits_free t.fixed _));
      apart = (λ i j _. apart_none (unblocked j));
      one_type = (λ i j l. absurd (true≢false (sym l ∙ unblocked i)));
      counts = (λ b _. omega (arith, ap count_of (none b), count_none (names b) t.handles row.Free (λ i. names_none b (handle_at t i) (unblocked i))));
      placed = (λ b. subst (Placed t.fixed t.limit) (sym (none b)) (record { low = (λ z. absurd (true≢false z)); high = omega arith; counted = (λ z. absurd (true≢false z)); classed = omega arith }));
      blocks_apart = (λ b _ _ p x _. absurd (omega (arith, ap place_of (none b), ap size_of (none b))));
    }

pub sound_new : Sound new_table
sound_new = sound_empty new_table (omega arith) (omega arith) refl refl (λ i. ap handle_free (row_replicate 64 i row.Free)) (λ b. ap block_free (row_replicate 32 b block.Free))

pub sound_opened : (t : Table) (n f s : ℕ) → Sound t → t.opened ≡ false → f ≤ s → s ≤ 16777216 → Sound (opened_table t n f s)
sound_opened t n f s k o low high = sound_empty (opened_table t n f s) high low k.rows k.blocks (k.shut o) (shut_blocks k o)

-- One handle less.

lowered_count : (x : BlockRow) → count_of (lowered x) ≡ count_of x - 1
lowered_count block.Free = refl
lowered_count (block.Live b) = cond_both (leb b.count 1) block.Free _ (λ y. count_of y ≡ b.count - 1) (λ q. omega (arith, leb-true b.count 1 q)) (λ _. refl)

pub lowered_same : (x : BlockRow) → 2 ≤ count_of x → Same (lowered x) x
lowered_same block.Free l = (refl, refl)
lowered_same (block.Live b) l = cond_both (leb b.count 1) block.Free _ (λ y. Same y (block.Live b)) (λ q. absurd (omega (arith, leb-true b.count 1 q))) (λ _. (refl, refl))

lowered_in : (x : BlockRow) (p : ℕ) → InBlock p (lowered x) → InBlock p x
lowered_in block.Free p = λ z. z
lowered_in (block.Live b) p = cond_both (leb b.count 1) block.Free _ (λ y. InBlock p y → InBlock p (block.Live b)) (λ _ z. absurd (omega arith)) (λ _ z. z)

lowered_placed : (fixed limit : ℕ) (x : BlockRow) → Placed fixed limit x → Placed fixed limit (lowered x)
lowered_placed fixed limit block.Free k = k
lowered_placed fixed limit (block.Live b) k =
    cond_both (leb b.count 1) block.Free _ (Placed fixed limit)
    (λ _. record { low = (λ z. absurd (true≢false z)); high = omega arith; counted = (λ z. absurd (true≢false z)); classed = omega arith })
    (λ q. record { low = k.low; high = k.high; counted = (λ _. omega (arith, leb-false b.count 1 q)); classed = k.classed })

detach_blocked : (t : Table) (i : ℕ) → Sound t → blocked (handle_at t i) ≡ true → Sound (with_handle (with_block t (block_of (handle_at t i)) (lowered (block_under t i))) i row.Free)
detach_blocked t i s l =
    let b = block_of (handle_at t i) in
    let x = block_at t b in
    sound_changed t i b row.Free (lowered x) s (live_opened s i (blocked_live (handle_at t i) l)) (blocked_row s i l) ((s.fits i).known l) (record {
      fit = fits_free t.fixed _;
      others = (λ k ne m e.
          let more = two s i k (λ q. ne (sym q)) l m (sym e) in
          let f = subst (λ q. Fits t.fixed (handle_at t k) (block_at t q)) e (s.fits k) in
          fits_same f (λ _. lowered_same x more) (λ q. absurd (omega (arith, f.alone q))));
      clear = clear_none t i row.Free refl;
      count = omega (arith, lowered_count x, held s i l, ap one (names_own b (handle_at t i) l refl));
      counts = (λ c ne. sym (names_other c (handle_at t i) l (λ e. ne (sym e))));
      placed = lowered_placed t.fixed t.limit x (s.placed b);
      room = (λ c ne p y z. s.blocks_apart b c (λ e. ne (sym e)) p (lowered_in x p y) z);
    })

pub sound_detach : (t : Table) (i : ℕ) → Sound t → handle_free (handle_at t i) ≡ false → Sound (detach t i)
sound_detach t i s l =
    cond_both (blocked (handle_at t i)) (with_block t (block_of (handle_at t i)) (lowered (block_under t i))) t (λ u. Sound (with_handle u i row.Free))
    (detach_blocked t i s)
    (λ q. sound_unblocked t i row.Free s (live_opened s i l) (live_row s i l) q refl (fits_free t.fixed _))

-- One handle more.

pub raised_same : (x : BlockRow) → Same (raised x) x
raised_same block.Free = (refl, refl)
raised_same (block.Live b) = (refl, refl)

raised_count : (x : BlockRow) → block_free x ≡ false → count_of (raised x) ≡ count_of x + 1
raised_count block.Free l = absurd (true≢false l)
raised_count (block.Live b) l = refl

raised_placed : (fixed limit : ℕ) (x : BlockRow) → Placed fixed limit x → Placed fixed limit (raised x)
raised_placed fixed limit block.Free k = k
raised_placed fixed limit (block.Live b) k = record { low = k.low; high = k.high; counted = (λ _. omega arith); classed = k.classed }

pub sound_attach : (t : Table) (j : ℕ) (h : HandleRow) → Sound t → j < 64 → handle_free (handle_at t j) ≡ true → blocked h ≡ true → block_free (block_at t (block_of h)) ≡ false → Fits t.fixed h (raised (block_at t (block_of h))) → ((k : ℕ) → lone (handle_at t k) ≡ true → block_of (handle_at t k) ≢ block_of h) → Clear t j h → Sound (attach t j h)
sound_attach t j h s lj free l live fit none clear =
    let b = block_of h in
    let x = block_at t b in
    let lb = fit.known l in
    let o : t.opened ≡ true = elim (cases_Bool t.opened) [ inl o ↦ o | inr o ↦ absurd (true≢false (sym (shut_blocks s o b) ∙ live)) ] in
    let unblocked = free_unblocked (handle_at t j) free in
    sound_changed t j b h (raised x) s o lj lb (record {
      fit = subst (Fits t.fixed h) (sym (get_or-set_same t.blocks b (raised x) block.Free (omega (arith, s.blocks)))) fit;
      others = (λ k _ _ e. fits_same (subst (λ q. Fits t.fixed (handle_at t k) (block_at t q)) e (s.fits k)) (λ _. raised_same x) (λ q. absurd (none k q e)));
      clear = clear;
      count = omega (arith, raised_count x live, ap one (names_own b h l refl), ap one (names_none b (handle_at t j) unblocked));
      counts = (λ c ne. names_other c h l (λ e. ne (sym e)) ∙ sym (names_none c (handle_at t j) unblocked));
      placed = raised_placed t.fixed t.limit x (s.placed b);
      room = (λ c ne p y z. s.blocks_apart b c (λ e. ne (sym e)) p (omega (arith, y, raised_same x)) z);
    })

-- A block in a block row that no handle but that of row i is on, and that handle over it.

settled : (t : Table) (i b : ℕ) (x : Block) (h : HandleRow) → Sound t → t.opened ≡ true → i < 64 → one (names b (handle_at t i)) ≡ count_of (block_at t b) → ((c : ℕ) → c ≢ b → names c (handle_at t i) ≡ false) → ((k : ℕ) → k ≢ i → blocked (handle_at t k) ≡ true → block_of (handle_at t k) ≢ b) → x.count ≡ 1 → x.class ≤ 7 → RoomAt t x.size x.place → blocked h ≡ true → block_of h ≡ b → Fits t.fixed h (block.Live x) → Sound (settle t i b x h)
settled t i b x h s o li was other only single class room l on fit =
    let lb : b < 32 = omega (arith, fit.known l) in
    sound_changed t i b h (block.Live x) s o li lb (record {
      fit = subst (λ q. Fits t.fixed h (block_at (with_block t b (block.Live x)) q)) (sym on) (subst (Fits t.fixed h) (sym (get_or-set_same t.blocks b (block.Live x) block.Free (omega (arith, s.blocks)))) fit);
      others = (λ k ne m e. absurd (only k ne m e));
      clear = clear_alone t i h (λ j ne m e. only j ne m (sym e ∙ on));
      count = omega (arith, ap one (names_own b h l on));
      counts = (λ c ne. names_other c h l (λ e. ne (sym e ∙ on)) ∙ sym (other c ne));
      placed = record { low = (λ _. room.low); high = room.high; counted = (λ _. omega arith); classed = class };
      room = (λ c _ p. room.free c p);
    })

-- in a free block row
pub sound_settle : (t : Table) (i b : ℕ) (x : Block) (h : HandleRow) → Sound t → t.opened ≡ true → i < 64 → blocked (handle_at t i) ≡ false → block_free (block_at t b) ≡ true → x.count ≡ 1 → x.class ≤ 7 → RoomAt t x.size x.place → blocked h ≡ true → block_of h ≡ b → Fits t.fixed h (block.Live x) → Sound (settle t i b x h)
sound_settle t i b x h s o li was free =
    settled t i b x h s o li
    (omega (arith, ap one (names_none b (handle_at t i) was), ap count_of (free_block_is (block_at t b) free)))
    (λ c _. names_none c (handle_at t i) was)
    (λ k _. unheld s b free k)

-- in place of the block that the handle of row i has to itself
pub sound_regrow : (t : Table) (i b : ℕ) (x : Block) (h : HandleRow) → Sound t → blocked (handle_at t i) ≡ true → block_of (handle_at t i) ≡ b → count_of (block_at t b) ≡ 1 → x.count ≡ 1 → x.class ≤ 7 → RoomAt t x.size x.place → blocked h ≡ true → block_of h ≡ b → Fits t.fixed h (block.Live x) → Sound (settle t i b x h)
sound_regrow t i b x h s l on single =
    settled t i b x h s (live_opened s i (blocked_live (handle_at t i) l)) (blocked_row s i l)
    (omega (arith, ap one (names_own b (handle_at t i) l on)))
    (λ c ne. names_other c (handle_at t i) l (λ e. ne (sym e ∙ on)))
    (λ k ne m e. alone s i l (subst (λ q. count_of (block_at t q) ≡ 1) (sym on) single) k ne m (on ∙ sym e))
