-- A list after one row was set.
use Rattle.std.proofs.Common.{◌≡◌, ℕ, ◌+◌, ◌<◌, ◌≤◌, Bool, true, false, cond, ◌≢◌, ◌⊎◌, List, length, get_or, set, replicate, count_by, sym, refl, ap, subst, inl, inr, arith}
use Rattle.std.proofs.ByRecursion.{All-from_get_or, sum_by_le}
use Rattle.std.proofs.lemmas.List.{get_or_past, get_or-replicate, get_or-set_other, get_or-set_same, length-replicate, length-set}
use Rattle.std.proofs.lemmas.List.Sums.{get_or-le-sum_by, sum_by-set}
use Rattle.std.proofs.lemmas.Bool.{cases_eq, cases_lt}

-- what holds at the row that was set, and at each other row as it was, holds of every row
pub at_set : {X : Type 0} (xs : List X) (i : ℕ) (y d : X) (P : ℕ → X → Type 0) → i < length xs → P i y → ((k : ℕ) → k ≢ i → P k (get_or xs k d)) → (k : ℕ) → P k (get_or (set xs i y) k d)
at_set xs i y d P l new old k = go (cases_eq k i)
  where
    go : (k ≡ i) ⊎ (k ≡ i → ⊥) → P k (get_or (set xs i y) k d)
    go (inl e) = subst (λ j. P j (get_or (set xs i y) j d)) (sym e) (subst (P i) (sym (get_or-set_same xs i y d l)) new)
    go (inr ne) = subst (P k) (sym (get_or-set_other xs i k y d ne)) (old k ne)

-- what holds of each two rows, and of the new row with each other one both ways, holds of each two
pub pairs_set : {X : Type 0} (xs : List X) (i : ℕ) (y d : X) (R : X → X → Type 0) → i < length xs → ((j : ℕ) → j ≢ i → R y (get_or xs j d)) → ((j : ℕ) → j ≢ i → R (get_or xs j d) y) → ((j k : ℕ) → j ≢ k → R (get_or xs j d) (get_or xs k d)) → (j k : ℕ) → j ≢ k → R (get_or (set xs i y) j d) (get_or (set xs i y) k d)
pairs_set xs i y d R l away back all =
    at_set xs i y d (λ j x. (k : ℕ) → j ≢ k → R x (get_or (set xs i y) k d)) l
    (at_set xs i y d (λ k z. i ≢ k → R y z) l (λ ne. absurd (ne refl)) (λ k nk _. away k nk))
    (λ j nj. at_set xs i y d (λ k z. j ≢ k → R (get_or xs j d) z) l (λ _. back j nj) (λ k _. all j k))

pub count_set : {X : Type 0} (p : X → Bool) (xs : List X) (i : ℕ) (y d : X) → i < length xs → count_by p (set xs i y) + cond (p (get_or xs i d)) 1 0 ≡ count_by p xs + cond (p y) 1 0
count_set p xs i y d l = sum_by-set (λ x. cond (p x) 1 0) xs i y d l

-- two rows that pass are two, where some row does not pass
pub count_two : {X : Type 0} (p : X → Bool) (xs : List X) (i j : ℕ) (y d : X) → i < length xs → j < length xs → i ≢ j → p (get_or xs i d) ≡ true → p (get_or xs j d) ≡ true → p y ≡ false → 2 ≤ count_by p xs
count_two p xs i j y d l m ne a b c =
    let one = λ (x : Bool). cond {A = ℕ} x 1 0 in
    let in-set : j < length (set xs i y) = omega (arith, length-set xs i y) in
    let other = get_or-set_other xs i j y d (λ e. ne (sym e)) in
    omega (arith, count_set p xs i y d l, get_or-le-sum_by (λ x. cond (p x) 1 0) (set xs i y) j d in-set, ap one a, ap one b, ap one c, ap (λ x. one (p x)) other)

-- where no row passes, the count is 0
pub count_none : {X : Type 0} (p : X → Bool) (xs : List X) (d : X) → ((i : ℕ) → p (get_or xs i d) ≡ false) → count_by p xs ≡ 0
count_none p xs d none =
    let one = λ (x : Bool). cond {A = ℕ} x 1 0 in
    omega (arith, sum_by_le (λ x. one (p x)) 0 xs (All-from_get_or (λ x. one (p x) ≤ 0) xs d (λ i _. omega (arith, ap one (none i)))))

-- every row of a list of equal rows, and past its end, is that row
pub row_replicate : {X : Type 0} (n i : ℕ) (a : X) → get_or (replicate n a) i a ≡ a
row_replicate n i a = elim (cases_lt i n) [ inl l ↦ get_or-replicate n i a a l | inr l ↦ get_or_past (replicate n a) i a (omega (arith, length-replicate n a)) ]
