-- One digit more of a number, and the digits that a list begins with.
use Rattle.std.proofs.Common.{◌≡◌, ℕ, zero, suc, ◌+◌, ◌-◌, ◌*◌, ◌^◌, ◌<◌, ◌≤◌, List, length, get_or, take, pow-suc, add-one, arith, lit<, get_or-take, length-take}
use native.Mathlib.Nat.{pow-le-pow_right}
use Rattle.std.specs.Char.{is_ascii_digit}
use Rattle.std.specs.List.{prefix_len}
use Rattle.std.proofs.lemmas.Int.{ints, to_z-of_z}
use Rattle.std.proofs.lemmas.List.Sums.{fold_more, prefix_len_passes}
use Rattle.std.proofs.lemmas.Bool.Decides.{nat_tests}
use Rattle.statement.specs.Amounts.{IsDigit, AllDigits, most_digits, decimal}

pub counted_digits : (n : ℕ) (xs : List ℕ) → n ≡ prefix_len is_ascii_digit xs → AllDigits (take n xs)
counted_digits n xs e k d h = rw (get_or-take n xs k d (omega (arith, length-take n xs))) (prefix_len_passes is_ascii_digit xs k d (omega (arith, length-take n xs)))

digit_below : (b : ℕ) → IsDigit b → b - 48 < 10
digit_below b e = grind (arith, nat_tests)

pub decimal_more : (ds : List ℕ) (k : ℕ) → k < length ds → decimal (take (k + 1) ds) ≡ decimal (take k ds) * 10 + (get_or ds k 0 - 48)
decimal_more ds k h = fold_more (λ n d. n * 10 + (d - 48)) 0 ds k 0 h

module _ (ds : List ℕ) (all : AllDigits ds) where
  decimal_below : (k : ℕ) → k ≤ length ds → decimal (take k ds) < 10 ^ k
  decimal_below zero h = omega arith
  decimal_below (suc k) h =
      let below = decimal_below k (omega arith) in
      let digit = digit_below (get_or ds k 0) (all k 0 (omega arith)) in
      rw (← add-one k, decimal_more ds k (omega arith), add-one k, pow-suc 10 k) (omega arith)

  -- 12 digits spell less than 10^12
  pub decimal_small : (k : ℕ) → k ≤ length ds → k ≤ most_digits → decimal (take k ds) < 1000000000000
  decimal_small k h few =
      let below = decimal_below k h in
      let most : 10 ^ k ≤ 10 ^ most_digits = pow-le-pow_right (lit< tt) few in
      omega arith

pub ruleset digit_sums = (ints, to_z-of_z, decimal_more, decimal_small)
