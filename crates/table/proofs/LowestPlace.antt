-- The place that is answered for a new block has room, and no lower one has.
use Rattle.std.proofs.Common.{◌≡◌, ℕ, zero, suc, ◌+◌, ◌≤◌, max, true, false, ◌&&◌, leb, ◌⊎◌, List, [], ◌∷◌, get_or, Some, None, Option, sym, refl, ◌∙◌, subst, inl, inr, ⊎_elim, arith}
use Rattle.std.proofs.lemmas.Bool.{and_from, and_parts, both_ways, cases_Bool, cases_eq, cond_both, cond-false, le-leb, leb-true, ltb-false, ltb-true}
use Rattle.std.proofs.lemmas.Bool.Decides.{nat_tests}
use Rattle.table.specs.PlaceLaw.{LowestPlace, LowestPlaces, place_for}
use Rattle.table.specs.Places.{clear, fits_at, lower, lowest_of, lowest_place, meets, sooner}
use Rattle.rows.specs.Rows.{block_free, place_of}
use Rattle.table.specs.Soundness.{In, InBlock, RoomAt}
use Rattle.table.specs.Tables.{block_at}
use Rattle.rows.specs.declared.block.Block.{Block}
use Rattle.rows.specs.declared.block.BlockRow.{BlockRow}
use Rattle.rows.specs.declared.block.BlockRow.TheVariants.{Free, Live}
use Rattle.table.specs.declared.table.Table.{Table}

module _ (p n : ℕ) where
  -- where they meet, a position is in both
  meets_shares : (x : BlockRow) → meets p n x ≡ true → (q : ℕ) × In q p n × InBlock q x
  meets_shares Free e = absurd (both_ways false refl e)
  meets_shares (Live b) e = (max p b.place, (grind (arith, nat_tests), grind (arith, nat_tests)), (grind (arith, nat_tests), grind (arith, nat_tests)))

  shares_meets : (x : BlockRow) (q : ℕ) → In q p n → InBlock q x → meets p n x ≡ true
  shares_meets Free q i j = absurd (omega arith)
  shares_meets (Live b) q i j = grind (arith, nat_tests)

  clear_each : (rs : List BlockRow) → clear p n rs ≡ true → (k : ℕ) → meets p n (get_or rs k Free) ≡ false
  clear_each [] e k = refl
  clear_each (r ∷ rs) e zero = grind (arith, nat_tests)
  clear_each (r ∷ rs) e (suc k) = clear_each rs (grind (arith, nat_tests)) k

  each_clear : (rs : List BlockRow) → ((k : ℕ) → meets p n (get_or rs k Free) ≡ false) → clear p n rs ≡ true
  each_clear [] h = refl
  each_clear (r ∷ rs) h = cond-false (meets p n r) false (clear p n rs) (h 0) ∙ each_clear rs (λ k. h (suc k))

  -- a block that meets the n bytes from p on, but not those from p + 1 on, ends at p + 1
  meets_last : (b : Block) → meets p n (Live b) ≡ true → meets (suc p) n (Live b) ≡ false → suc p ≡ b.place + b.size
  meets_last b meet apart = grind (arith, nat_tests)

-- q is the end of a live block
abbrev End : ℕ → List BlockRow → Type 0
End q [] = ⊥
End q (Free ∷ rs) = End q rs
End q (Live b ∷ rs) = (q ≡ b.place + b.size) ⊎ End q rs

clear_end : (p n : ℕ) (rs : List BlockRow) → clear (suc p) n rs ≡ true → clear p n rs ≡ false → End (suc p) rs
clear_end p n [] after at = absurd (both_ways true at refl)
clear_end p n (Free ∷ rs) after at = clear_end p n rs after at
clear_end p n (Live b ∷ rs) after at =
    ⊎_elim
    (λ here. inl (meets_last p n b here (clear_each (suc p) n (Live b ∷ rs) after 0)))
    (λ away. inr (clear_end p n rs (grind (arith, nat_tests)) (grind (arith, nat_tests))))
    (cases_Bool (meets p n (Live b)))

-- the place in a Some is at most q, and there is one
abbrev AtMost : ℕ → Option ℕ → Type 0
AtMost q None = ⊥
AtMost q (Some p) = p ≤ q

at_most_next : (q : ℕ) (o : Option ℕ) → AtMost q o → AtMost (suc q) o
at_most_next q None h = h
at_most_next q (Some p) h = omega (arith, h)

not_sooner : (p : ℕ) (best : Option ℕ) → sooner p best ≡ false → AtMost p best
not_sooner p None e = both_ways true e refl
not_sooner p (Some q) e = ltb-false p q e

sooner_below : (p q : ℕ) (best : Option ℕ) → sooner p best ≡ true → AtMost q best → p ≤ q
sooner_below p q None e h = absurd h
sooner_below p q (Some r) e h = omega (arith, ltb-true p r e, h)

module _ (start limit : ℕ) (rs : List BlockRow) (n : ℕ) where
  lower_new : (best : Option ℕ) (p : ℕ) → fits_at limit rs p n ≡ true → AtMost p (lower limit rs n best p)
  lower_new best p fits = cond_both (sooner p best && fits_at limit rs p n) (Some p) best (AtMost p) (λ _. omega arith) (λ e. not_sooner p best (grind (arith, nat_tests)))

  lower_kept : (best : Option ℕ) (p q : ℕ) → AtMost q best → AtMost q (lower limit rs n best p)
  lower_kept best p q h = cond_both (sooner p best && fits_at limit rs p n) (Some p) best (AtMost q) (λ e. sooner_below p q best (and_parts _ _ e).0 h) (λ _. h)

  lowest_kept : (best : Option ℕ) (ends : List BlockRow) (q : ℕ) → AtMost q best → AtMost q (lowest_of limit rs n best ends)
  lowest_kept best [] q h = h
  lowest_kept best (Free ∷ ends) q h = lowest_kept best ends q h
  lowest_kept best (Live b ∷ ends) q h = lowest_kept (lower limit rs n best (b.place + b.size)) ends q (lower_kept best (b.place + b.size) q h)

  lowest_at_end : (best : Option ℕ) (ends : List BlockRow) (q : ℕ) → End q ends → fits_at limit rs q n ≡ true → AtMost q (lowest_of limit rs n best ends)
  lowest_at_end best [] q e fits = absurd e
  lowest_at_end best (Free ∷ ends) q e fits = lowest_at_end best ends q e fits
  lowest_at_end best (Live b ∷ ends) q e fits =
      let next = lower limit rs n best (b.place + b.size) in
      ⊎_elim
      (λ here. lowest_kept next ends q (subst (λ p. AtMost q (lower limit rs n best p)) here (lower_new best q fits)))
      (λ later. lowest_at_end next ends q later fits)
      e

  lowest_at_start : (q : ℕ) → start ≡ q → fits_at limit rs q n ≡ true → AtMost q (lowest_place start limit rs n)
  lowest_at_start q e fits =
      lowest_kept (lower limit rs n None start) rs q (subst (λ p. AtMost q (lower limit rs n None p)) (sym e) (lower_new None q fits))

  -- a place that fits just after one that does not is the end of a block
  fits_end : (q : ℕ) → fits_at limit rs (suc q) n ≡ true → fits_at limit rs q n ≡ false → End (suc q) rs
  fits_end q after at = clear_end q n rs (and_parts _ _ after).1 (grind (arith, nat_tests))

  lowest_next : (q : ℕ) → (fits_at limit rs q n ≡ true → AtMost q (lowest_place start limit rs n)) → fits_at limit rs (suc q) n ≡ true → AtMost (suc q) (lowest_place start limit rs n)
  lowest_next q rec fits =
      ⊎_elim
      (λ at. at_most_next q (lowest_place start limit rs n) (rec at))
      (λ not_at. lowest_at_end (lower limit rs n None start) rs (suc q) (fits_end q fits not_at) fits)
      (cases_Bool (fits_at limit rs q n))

  -- where n bytes fit at q, a place no higher is answered
  lowest_at_most : (q : ℕ) → start ≤ q → fits_at limit rs q n ≡ true → AtMost q (lowest_place start limit rs n)
  lowest_at_most zero low fits = lowest_at_start zero (omega arith) fits
  lowest_at_most (suc q) low fits =
      ⊎_elim (λ e. lowest_at_start (suc q) e fits) (λ ne. lowest_next q (lowest_at_most q (omega arith)) fits) (cases_eq start (suc q))

  -- the place in a Some lies from start on, and n bytes fit there
  abbrev Fitting : Option ℕ → Type 0
  Fitting None = Unit {0}
  Fitting (Some p) = (start ≤ p) × (fits_at limit rs p n ≡ true)

  lower_fitting : (best : Option ℕ) (p : ℕ) → start ≤ p → Fitting best → Fitting (lower limit rs n best p)
  lower_fitting best p low h = cond_both (sooner p best && fits_at limit rs p n) (Some p) best Fitting (λ e. (low, (and_parts _ _ e).1)) (λ _. h)

  lowest_fitting : (best : Option ℕ) (ends : List BlockRow) → ((k : ℕ) → block_free (get_or ends k Free) ≡ false → start ≤ place_of (get_or ends k Free)) → Fitting best → Fitting (lowest_of limit rs n best ends)
  lowest_fitting best [] from h = h
  lowest_fitting best (Free ∷ ends) from h = lowest_fitting best ends (λ k. from (suc k)) h
  lowest_fitting best (Live b ∷ ends) from h =
      lowest_fitting (lower limit rs n best (b.place + b.size)) ends (λ k. from (suc k)) (lower_fitting best (b.place + b.size) (omega (arith, from 0 refl)) h)

module _ (t : Table) (n : ℕ) where
  fits_room : (p : ℕ) → t.fixed ≤ p → fits_at t.limit t.blocks p n ≡ true → RoomAt t n p
  fits_room p low fits =
      let parts = and_parts (leb (p + n) t.limit) (clear p n t.blocks) fits in
      record {
        low = low;
        high = leb-true (p + n) t.limit parts.0;
        free = λ b q i j. both_ways (meets p n (block_at t b)) (clear_each p n t.blocks parts.1 b) (shares_meets p n (block_at t b) q i j);
      }

  room_apart : (p : ℕ) → RoomAt t n p → (b : ℕ) → meets p n (block_at t b) ≡ false
  room_apart p room b =
      ⊎_elim
      (λ meet. let shared = meets_shares p n (block_at t b) meet in absurd (room.free b shared.0 shared.1 shared.2))
      (λ apart. apart)
      (cases_Bool (meets p n (block_at t b)))

  room_fits : (p : ℕ) → RoomAt t n p → fits_at t.limit t.blocks p n ≡ true
  room_fits p room = and_from (leb (p + n) t.limit) (clear p n t.blocks) (le-leb (p + n) t.limit room.high) (each_clear p n t.blocks (room_apart p room))

  lowest_from : (o : Option ℕ) → Fitting t.fixed t.limit t.blocks n o → ((q : ℕ) → RoomAt t n q → AtMost q o) → LowestPlace t n o
  lowest_from None fits low = low
  lowest_from (Some p) fits low = (fits_room p fits.0 fits.1, low)

  place_fitting : ((b : ℕ) → block_free (block_at t b) ≡ false → t.fixed ≤ place_of (block_at t b)) → Fitting t.fixed t.limit t.blocks n (place_for t n)
  place_fitting from =
      let first = lower_fitting t.fixed t.limit t.blocks n None t.fixed (omega arith) tt in
      lowest_fitting t.fixed t.limit t.blocks n (lower t.limit t.blocks n None t.fixed) t.blocks from first

pub lowest_place_law : LowestPlaces
lowest_place_law t n from =
    lowest_from t n (place_for t n) (place_fitting t n from) (λ q room. lowest_at_most t.fixed t.limit t.blocks n q room.low (room_fits t n q room))

pub place_found : (t : Table) (n p : ℕ) → ((b : ℕ) → block_free (block_at t b) ≡ false → t.fixed ≤ place_of (block_at t b)) → place_for t n ≡ Some p → RoomAt t n p
place_found t n p from e = (subst (LowestPlace t n) e (lowest_place_law t n from)).0

-- whatever the blocks are, a block at the place ends inside the working part
pub place_inside : (t : Table) (n p : ℕ) → place_for t n ≡ Some p → p + n ≤ t.limit
place_inside t n p e =
    let first = lower_fitting 0 t.limit t.blocks n None t.fixed (omega arith) tt in
    let fits = lowest_fitting 0 t.limit t.blocks n (lower t.limit t.blocks n None t.fixed) t.blocks (λ b _. omega arith) first in
    leb-true (p + n) t.limit (and_parts (leb (p + n) t.limit) (clear p n t.blocks) (subst (Fitting 0 t.limit t.blocks n) e fits).1).0
