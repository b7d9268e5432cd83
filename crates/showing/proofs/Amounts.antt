-- What an amount's pieces write, and that they are the amount.
use mir.Syntax.{w128}
use Rattle.std.proofs.Common.{◌≡◌, ℕ, ℤ, pos, negsuc, zero, suc, ◌<◌, ◌≤◌, ◌/◌, ◌%◌, ◌^◌, ◌-◌, Bool, true, false, List, [], ◌∷◌, ◌++◌, length, replicate, neg_ℤ, refl, sym, subst, ap, ◌∙◌, arith, append_assoc, append-nil, length-append, encode_utf8, FitsSigned, of_z, to_z, ◌⊎◌, inl, inr}
use Rattle.std.proofs.lemmas.Bool.{false≢true}
use Rattle.std.proofs.Padding.{char_count-nil, padded_integral_right, padded_integral_zeros, repeat_ascii}
use Rattle.std.proofs.lemmas.Int.{ints, to_z-of_z}
use Rattle.std.proofs.lemmas.Fmt.{decimal_digit, decimal_step}
use Rattle.std.specs.Fmt.{padded_integral, format_spec, sign_text, char_count, styled_decimal, styled_signed_decimal, styled_text, padded, take_chars}
use Rattle.std.proofs.lemmas.Str.Ascii.{encode_ascii}
use Rattle.std.specs.List.{repeat}
use Rattle.std.specs.Prelude.{codes, decimal, int_div, int_lt, unsigned_abs}
use Rattle.showing.specs.Texts.{amount, two_digits}

-- fill, a sign, no prefix, no zeros, the digits and no fill behind them
laid : (p q k : ℕ) (sign numeral : List ℕ) → p ≡ q → k ≡ 0 → (((repeat p (encode_utf8 32) ++ sign) ++ []) ++ []) ++ (numeral ++ repeat k (encode_utf8 32)) ≡ replicate q 32 ++ (sign ++ numeral)
laid p q k sign numeral same none = rw (none, same, repeat_ascii q 32 (omega arith)) (simp (append_assoc, append-nil) refl)

signed : (numeral : List ℕ) → padded_integral (format_spec 32 3 0 9 (2 ^ 64 - 1)) true [] numeral ≡ replicate (9 - suc (length numeral)) 32 ++ (45 ∷ numeral)
unfolding padded_integral
signed numeral =
    let p = 9 - length numeral - 1 - char_count [] in
    laid p (9 - suc (length numeral)) (p - p) (45 ∷ []) numeral (omega (arith, char_count-nil)) (omega arith)

-- what `{whole:>9}` writes
right : (negative : Bool) (numeral : List ℕ) → padded_integral (format_spec 32 3 0 9 (2 ^ 64 - 1)) negative [] numeral ≡ replicate (9 - length (sign_text negative ++ numeral)) 32 ++ (sign_text negative ++ numeral)
right true numeral = signed numeral
right false numeral = padded_integral_right (format_spec 32 3 0 9 (2 ^ 64 - 1)) numeral refl refl (λ e. absurd (omega (arith, e))) (λ e. absurd (omega (arith, e))) (omega arith)

rest_low : (n : ℕ) → n < 10 → replicate (2 - length (decimal n)) 48 ++ decimal n ≡ two_digits n
rest_low n low =
    let tens : n / 10 ≡ 0 = omega arith in
    let ones : n % 10 ≡ n = omega arith in
    rw (decimal_digit n low, tens, ones) refl

rest_high : (n : ℕ) → 10 ≤ n → n < 100 → replicate (2 - length (decimal n)) 48 ++ decimal n ≡ two_digits n
rest_high n high small = rw (decimal_step n high (omega arith), decimal_digit (n / 10) (omega arith)) refl

-- what `{rest:02}` writes
rest_digits : (n : ℕ) → n < 100 → padded_integral (format_spec 32 0 4 2 (2 ^ 64 - 1)) false [] (decimal n) ≡ two_digits n
rest_digits n small =
    let digits : replicate (2 - length (decimal n)) 48 ++ decimal n ≡ two_digits n = grind (arith, rest_low n, rest_high n) in
    padded_integral_zeros (format_spec 32 0 4 2 (2 ^ 64 - 1)) (decimal n) refl refl ∙ digits

aligned : (t r : List ℕ) → length r ≡ 3 → (replicate (9 - length t) 32 ++ t) ++ r ≡ replicate (12 - length (t ++ r)) 32 ++ (t ++ r)
aligned t r three = append_assoc (replicate (9 - length t) 32) t r ∙ ap (λ k. replicate k 32 ++ (t ++ r)) (omega (arith, length-append t r))

abs_neg : (m : ℕ) → unsigned_abs (neg_ℤ (pos m)) ≡ m
abs_neg zero = refl
abs_neg (suc m) = refl

whole_size : (z : ℤ) → unsigned_abs (int_div z (pos 100)) ≡ unsigned_abs z / 100
whole_size (pos n) = refl
whole_size (negsuc n) = abs_neg (suc n / 100)

quotient_fits : (z : ℤ) → FitsSigned w128 z → FitsSigned w128 (int_div z (pos 100))
quotient_fits (pos n) fits = grind (arith, ints)
quotient_fits (negsuc n) fits = grind (arith, ints)

zero_of : (z : ℤ) → unsigned_abs z ≡ 0 → of_z w128 z ≡ 0
zero_of (pos n) none = rw none refl
zero_of (negsuc n) none = absurd (omega arith)

below_neg : (m : ℕ) → 0 < m → int_lt (neg_ℤ (pos m)) (pos 0) ≡ true
below_neg zero h = absurd (omega arith)
below_neg (suc m) h = refl

-- the whole units have the amount's sign, where they are not 0 or the amount is not below zero
whole_sign : (z : ℤ) → ((int_lt z (pos 0) ≡ true) × (of_z w128 (int_div z (pos 100)) ≡ 0 → ⊥)) ⊎ (int_lt z (pos 0) ≡ false) → int_lt (int_div z (pos 100)) (pos 0) ≡ int_lt z (pos 0)
whole_sign (pos n) either = grind (arith, ints)
whole_sign (negsuc n) (inl (neg, some)) = below_neg (suc n / 100) (by_zero (suc n / 100) refl)
  where
    by_zero : (m : ℕ) → m ≡ suc n / 100 → 0 < m
    by_zero zero e = absurd (some (zero_of (int_div (negsuc n) (pos 100)) (whole_size (negsuc n) ∙ sym e)))
    by_zero (suc m) e = omega arith
whole_sign (negsuc n) (inr e) = absurd (false≢true (sym e))

-- what `{whole:>9}.{rest:02}` writes, where the sign of the amount is that of its whole units
amount_shown : (z w : ℤ) → unsigned_abs w ≡ unsigned_abs z / 100 → int_lt w (pos 0) ≡ int_lt z (pos 0)
    → padded_integral (format_spec 32 3 0 9 (2 ^ 64 - 1)) (int_lt w (pos 0)) [] (decimal (unsigned_abs w)) ++ (codes "." ++ two_digits (unsigned_abs z % 100)) ≡ amount z
amount_shown z w size sign =
    let t = sign_text (int_lt z (pos 0)) ++ decimal (unsigned_abs z / 100) in
    let r = codes "." ++ two_digits (unsigned_abs z % 100) in
    rw (size, sign) (ap (λ l. l ++ r) (right (int_lt z (pos 0)) (decimal (unsigned_abs z / 100))) ∙ (aligned t r refl ∙ ap (λ l. replicate (12 - length l) 32 ++ l) (append_assoc (sign_text (int_lt z (pos 0))) (decimal (unsigned_abs z / 100)) r)))

-- an amount below zero and above -1.00
below_one : (z : ℤ) → int_lt z (pos 0) ≡ true → unsigned_abs z / 100 ≡ 0 → codes "       -0" ++ (codes "." ++ two_digits (unsigned_abs z % 100)) ≡ amount z
below_one z neg none = rw (neg, none, decimal_digit 0 (omega arith)) refl

minus_zero : styled_text (format_spec 32 3 0 9 (2 ^ 64 - 1)) (codes "-0") ≡ codes "       -0"
unfolding padded take_chars char_count
minus_zero = rw (encode_ascii 32 (omega arith)) refl

-- what `{:>9}.{rest:02}` writes of `-0`
pub shown_below_one : (z : ℤ) (n : ℕ) → FitsSigned w128 z → n ≡ unsigned_abs (to_z w128 (of_z w128 z)) → int_lt (to_z w128 (of_z w128 z)) (pos 0) ≡ true → of_z w128 (int_div (to_z w128 (of_z w128 z)) (pos 100)) ≡ 0
    → styled_text (format_spec 32 3 0 9 (2 ^ 64 - 1)) (codes "-0") ++ (codes "." ++ styled_decimal (format_spec 32 0 4 2 (2 ^ 64 - 1)) (n % 100)) ≡ amount z
shown_below_one z n fits size neg none = by (to_z w128 (of_z w128 z)) (to_z-of_z w128 z fits) size neg none
  where
    by : (x : ℤ) → x ≡ z → n ≡ unsigned_abs x → int_lt x (pos 0) ≡ true → of_z w128 (int_div x (pos 100)) ≡ 0
        → styled_text (format_spec 32 3 0 9 (2 ^ 64 - 1)) (codes "-0") ++ (codes "." ++ styled_decimal (format_spec 32 0 4 2 (2 ^ 64 - 1)) (n % 100)) ≡ amount z
    by x same size neg none =
        let fits : FitsSigned w128 x = subst (FitsSigned w128) (sym same) fits in
        let whole : int_div x (pos 100) ≡ pos 0 = sym (to_z-of_z w128 (int_div x (pos 100)) (quotient_fits x fits)) ∙ ap (to_z w128) none in
        let small : unsigned_abs x / 100 ≡ 0 = sym (whole_size x) ∙ ap unsigned_abs whole in
        subst (λ y. styled_text (format_spec 32 3 0 9 (2 ^ 64 - 1)) (codes "-0") ++ (codes "." ++ styled_decimal (format_spec 32 0 4 2 (2 ^ 64 - 1)) (n % 100)) ≡ amount y) same
        (rw (size, rest_digits (unsigned_abs x % 100) (omega arith), minus_zero) (below_one x neg small))

-- what `{whole:>9}.{rest:02}` writes of any other
pub shown : (z : ℤ) (n : ℕ) → FitsSigned w128 z → n ≡ unsigned_abs (to_z w128 (of_z w128 z)) → ((int_lt (to_z w128 (of_z w128 z)) (pos 0) ≡ true) × (of_z w128 (int_div (to_z w128 (of_z w128 z)) (pos 100)) ≡ 0 → ⊥)) ⊎ (int_lt (to_z w128 (of_z w128 z)) (pos 0) ≡ false)
    → styled_signed_decimal (format_spec 32 3 0 9 (2 ^ 64 - 1)) (to_z w128 (of_z w128 (int_div (to_z w128 (of_z w128 z)) (pos 100)))) ++ (codes "." ++ styled_decimal (format_spec 32 0 4 2 (2 ^ 64 - 1)) (n % 100)) ≡ amount z
shown z n fits size either = by (to_z w128 (of_z w128 z)) (to_z-of_z w128 z fits) size either
  where
    by : (x : ℤ) → x ≡ z → n ≡ unsigned_abs x → ((int_lt x (pos 0) ≡ true) × (of_z w128 (int_div x (pos 100)) ≡ 0 → ⊥)) ⊎ (int_lt x (pos 0) ≡ false)
        → styled_signed_decimal (format_spec 32 3 0 9 (2 ^ 64 - 1)) (to_z w128 (of_z w128 (int_div x (pos 100)))) ++ (codes "." ++ styled_decimal (format_spec 32 0 4 2 (2 ^ 64 - 1)) (n % 100)) ≡ amount z
    by x same size either =
        let fits : FitsSigned w128 x = subst (FitsSigned w128) (sym same) fits in
        subst (λ y. styled_signed_decimal (format_spec 32 3 0 9 (2 ^ 64 - 1)) (to_z w128 (of_z w128 (int_div x (pos 100)))) ++ (codes "." ++ styled_decimal (format_spec 32 0 4 2 (2 ^ 64 - 1)) (n % 100)) ≡ amount y) same
        (rw (size, to_z-of_z w128 (int_div x (pos 100)) (quotient_fits x fits), rest_digits (unsigned_abs x % 100) (omega arith)) (amount_shown x (int_div x (pos 100)) (whole_size x) (whole_sign x either)))
