-- How an amount that stands behind a letter and a semicolon is read.
--   First P xs          P holds of the first byte of xs, where there is one
--   NoDigit xs         xs begins with no digit
--   Other b xs          xs does not begin with the byte b
--   Ended n ds rest     rest goes on with another digit only where the digits ds are n
--   Cut n xs            xs in two: the digits that it begins with, n at the most, and the rest
--   Unspelt minus xs    xs begins with no digit, nor with a minus unless one stands before it
--   AmountFirst xs     xs in two: an amount with what stands behind it, or a sign and no digit
use Rattle.std.proofs.Common.{◌≡◌, ℕ, zero, suc, ◌+◌, ◌<◌, ◌≤◌, Bool, true, false, eqb, ◌⊎◌, List, [], ◌∷◌, ◌++◌, length, take, drop, ℤ, Ok, Err, refl, ap, ◌∙◌, subst, inl, inr, ⊎_elim, append_assoc, arith, length-append}
use Rattle.std.specs.Char.{is_ascii_digit}
use Rattle.std.specs.List.{take_while}
use Rattle.std.proofs.lemmas.List.Sums.{take_while-cons}
use Rattle.std.proofs.lemmas.List.{get_or_at}
use Rattle.std.proofs.lemmas.List.Elements.{All-nil, All-cons, All-tail}
use Rattle.std.proofs.lemmas.Bool.{cases_Bool, cases_eq, ne_eqb, false≢true}
use Rattle.std.proofs.lemmas.Bool.Decides.{nat_tests}
use Rattle.statement.specs.Amounts.{IsDigit, AllDigits, stands_at, most_digits, leading_digits, decimal, signed, digits_from, amount_at}
use Rattle.statement.specs.Grammar.{sign, Spells}

abbrev pub First : (ℕ → Type 0) → List ℕ → Type 0
First P [] = Unit {0}
First P (x ∷ xs) = P x

abbrev pub NoDigit : List ℕ → Type 0
NoDigit xs = First (λ c. is_ascii_digit c ≡ false) xs

abbrev pub Other : ℕ → List ℕ → Type 0
Other b xs = First (λ c. c ≡ b → ⊥) xs

abbrev pub Ended : ℕ → List ℕ → List ℕ → Type 0
Ended n ds rest = (length ds ≡ n) ⊎ NoDigit rest

abbrev pub Unspelt : Bool → List ℕ → Type 0
Unspelt minus xs = First (λ c. (is_ascii_digit c ≡ false) × (c ≡ 45 → minus ≡ true)) xs

first_like : {P Q : ℕ → Type 0} → ((c : ℕ) → P c → Q c) → (xs : List ℕ) → First P xs → First Q xs
first_like f [] h = tt
first_like f (x ∷ xs) h = f x h

first_always : {P : ℕ → Type 0} → ((c : ℕ) → P c) → (xs : List ℕ) → First P xs
first_always f [] = tt
first_always f (x ∷ xs) = f x

unspelt_from : (minus : Bool) (xs : List ℕ) → NoDigit xs → First (λ c. c ≡ 45 → minus ≡ true) xs → Unspelt minus xs
unspelt_from minus [] none signs = tt
unspelt_from minus (x ∷ xs) none signs = (none, signs)

-- the byte behind a front
pub stands_next : (front : List ℕ) (c b : ℕ) (rest : List ℕ) → stands_at (front ++ c ∷ rest) (length front) b ≡ eqb c b
stands_next front c b rest =
    let size = length-append front (c ∷ rest) in
    let next = get_or_at front c rest 0 (length front) refl in
    grind (arith, nat_tests)

pub other_next : (front : List ℕ) (b : ℕ) (rest : List ℕ) → Other b rest → stands_at (front ++ rest) (length front) b ≡ false
other_next front b [] h = let size = length-append {A = ℕ} front [] in grind (arith, nat_tests)
other_next front b (c ∷ rest) h = stands_next front c b rest ∙ ne_eqb c b h

digits_found : (n : ℕ) (ds rest : List ℕ) → AllDigits ds → length ds ≤ n → Ended n ds rest → take_while is_ascii_digit (take n (ds ++ rest)) ≡ ds
digits_found zero [] rest all few ended = refl
digits_found zero (d ∷ ds) rest all few ended = absurd (omega arith)
digits_found (suc n) [] [] all few ended = refl
digits_found (suc n) [] (c ∷ rest) all few ended = ⊎_elim (λ full. absurd (omega arith)) (λ none. rw none) ended
digits_found (suc n) (d ∷ ds) rest all few ended =
    rw (take_while-cons is_ascii_digit d (take n (ds ++ rest)), all 0 0 (omega arith))
    (ap (λ l. d ∷ l) (digits_found n ds rest (All-tail IsDigit d ds all) (omega arith) (⊎_elim (λ full. inl (omega arith)) (λ none. inr none) ended)))

digit_first : (ds rest : List ℕ) → AllDigits ds → 0 < length ds → Other 45 (ds ++ rest)
digit_first [] rest all some = absurd (omega arith)
digit_first (d ∷ ds) rest all some = λ e. let digit = all 0 0 (omega arith) in grind (arith, nat_tests)

module _ (minus : Bool) (from : ℕ) (xs : List ℕ) where
  digits_read : (ds rest : List ℕ) (behind : ℕ) → drop from xs ≡ ds ++ rest → leading_digits (ds ++ rest) ≡ ds → 0 < length ds → from + length ds ≡ behind → digits_from minus from xs ≡ Ok (record { cents = signed minus (decimal ds); behind = behind })
  digits_read ds rest behind e found some size = rw (e, found, ne_eqb (length ds) 0 (omega arith), size)

  no_digits_read : NoDigit (drop from xs) → digits_from minus from xs ≡ Err (record { at = from })
  no_digits_read none = rw (digits_found most_digits [] (drop from xs) (All-nil IsDigit) (omega arith) (inr none))

module _ (l : ℕ) where
  amount_of_digits : (minus : Bool) (ds rest : List ℕ) → AllDigits ds → 0 < length ds → leading_digits (ds ++ rest) ≡ ds → amount_at (l ∷ 59 ∷ ((sign minus ++ ds) ++ rest)) 2 ≡ Ok (record { cents = signed minus (decimal ds); behind = length (l ∷ 59 ∷ (sign minus ++ ds)) })
  amount_of_digits true ds rest all some found =
      rw (stands_next (l ∷ 59 ∷ []) 45 45 (ds ++ rest))
      (digits_read true 3 (l ∷ 59 ∷ 45 ∷ (ds ++ rest)) ds rest (suc (suc (suc (length ds)))) refl found some (omega arith))
  amount_of_digits false ds rest all some found =
      rw (other_next (l ∷ 59 ∷ []) 45 (ds ++ rest) (digit_first ds rest all some))
      (digits_read false 2 (l ∷ 59 ∷ (ds ++ rest)) ds rest (suc (suc (length ds))) refl found some (omega arith))

  pub unspelt_reads : (minus : Bool) (rest : List ℕ) → Unspelt minus rest → amount_at (l ∷ 59 ∷ (sign minus ++ rest)) 2 ≡ Err (record { at = length (l ∷ 59 ∷ sign minus) })
  unspelt_reads true rest h =
      rw (stands_next (l ∷ 59 ∷ []) 45 45 rest)
      (no_digits_read true 3 (l ∷ 59 ∷ 45 ∷ rest) (first_like (λ c k. k.0) rest h))
  unspelt_reads false rest h =
      rw (other_next (l ∷ 59 ∷ []) 45 rest (first_like (λ c k e. false≢true (k.1 e)) rest h))
      (no_digits_read false 2 (l ∷ 59 ∷ rest) (first_like (λ c k. k.0) rest h))

  pub spelt_reads : (a : List ℕ) (z : ℤ) (s : Spells a z) (rest : List ℕ) → Ended most_digits s.digits rest → amount_at (l ∷ 59 ∷ (a ++ rest)) 2 ≡ Ok (record { cents = z; behind = length (l ∷ 59 ∷ a) })
  spelt_reads a z s rest ended = rw (s.written, s.value) (amount_of_digits s.minus s.digits rest s.all_digits s.some (digits_found most_digits s.digits rest s.all_digits s.few ended))

pub record Cut (n : ℕ) (xs : List ℕ) : Type 0 where
  pub digits : List ℕ
  pub rest : List ℕ
  pub written : xs ≡ digits ++ rest
  pub all_digits : AllDigits digits
  pub few : length digits ≤ n
  pub ended : Ended n digits rest

cut : (n : ℕ) (xs : List ℕ) → Cut n xs
cut zero xs = record { digits = []; rest = xs; written = refl; all_digits = All-nil IsDigit; few = omega arith; ended = inl refl }
cut (suc n) [] = record { digits = []; rest = []; written = refl; all_digits = All-nil IsDigit; few = omega arith; ended = inr tt }
cut (suc n) (x ∷ xs) =
    let more = cut n xs in
    ⊎_elim
    (λ e. record { digits = x ∷ more.digits; rest = more.rest; written = ap (λ l. x ∷ l) more.written; all_digits = All-cons IsDigit x more.digits e more.all_digits; few = omega arith; ended = ⊎_elim (λ f. inl (ap suc f)) (λ f. inr f) more.ended })
    (λ e. record { digits = []; rest = x ∷ xs; written = refl; all_digits = All-nil IsDigit; few = omega arith; ended = inr e })
    (cases_Bool (is_ascii_digit x))

pub data AmountFirst : List ℕ → Type 0 where
  spelt : {a : List ℕ} {z : ℤ} → (s : Spells a z) (rest : List ℕ) → Ended most_digits s.digits rest → AmountFirst (a ++ rest)
  unspelt : (minus : Bool) (rest : List ℕ) → Unspelt minus rest → AmountFirst (sign minus ++ rest)

behind_sign : (minus : Bool) (ds rest : List ℕ) → AllDigits ds → length ds ≤ most_digits → Ended most_digits ds rest → First (λ c. c ≡ 45 → minus ≡ true) (ds ++ rest) → AmountFirst (sign minus ++ (ds ++ rest))
behind_sign minus [] rest all few ended signs = unspelt minus rest (unspelt_from minus rest (⊎_elim (λ full. absurd (omega arith)) (λ none. none) ended) signs)
behind_sign minus (d ∷ ds) rest all few ended signs =
    subst AmountFirst (append_assoc (sign minus) (d ∷ ds) rest)
    (spelt (record { minus = minus; digits = d ∷ ds; written = refl; all_digits = all; some = omega arith; few = few; value = refl }) rest ended)

signed_first : (minus : Bool) (xs : List ℕ) → First (λ c. c ≡ 45 → minus ≡ true) xs → AmountFirst (sign minus ++ xs)
signed_first minus xs signs =
    let c = cut most_digits xs in
    rw c.written (behind_sign minus c.digits c.rest c.all_digits c.few c.ended (rw c.written at signs))

pub amount_first : (xs : List ℕ) → AmountFirst xs
amount_first [] = signed_first false [] tt
amount_first (x ∷ xs) =
    ⊎_elim
    (λ e. rw e (signed_first true xs (first_always (λ c k. refl) xs)))
    (λ e. signed_first false (x ∷ xs) (λ k. absurd (e k)))
    (cases_eq x 45)
