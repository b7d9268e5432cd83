-- How many binary digits a number has, from the zeros before them.
use Rattle.std.proofs.Common.{◌≡◌, ℕ, zero, suc, ◌+◌, ◌-◌, ◌/◌, ◌^◌, ◌<◌, length, refl, add-one, arith}
use lib.Count.{count_leading_zeros}
use Rattle.std.specs.Int.Digits.{digits_of}
use Rattle.std.proofs.lemmas.Nat.{shr_below}
use Rattle.std.proofs.lemmas.Int.Digits.{length-digits_of_step}

zeros_and_digits : (k n : ℕ) → n < 2 ^ k → count_leading_zeros k n + length (digits_of 2 n) ≡ k
unfolding count_leading_zeros
zeros_and_digits zero zero h = refl
zeros_and_digits zero (suc n) h = absurd (omega arith)
zeros_and_digits (suc k) zero h = omega arith
zeros_and_digits (suc k) (suc n) h =
    let half : suc n / 2 < 2 ^ k = shr_below (suc n) k 1 (rw add-one h) in
    let step = length-digits_of_step 2 (suc n) (omega arith) (omega arith) in
    let rest = zeros_and_digits k (suc n / 2) half in
    omega arith

pub digits_from_zeros : (k n : ℕ) → n < 2 ^ k → k - count_leading_zeros k n ≡ length (digits_of 2 n)
digits_from_zeros k n h = omega (arith, zeros_and_digits k n h)
