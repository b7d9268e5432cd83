-- Amounts in cents: an optional minus and 1 to 12 digits.
--   stands_at xs at b   whether the byte b stands at the index at of the line xs
--   most_digits          the most digits that an amount has
--   leading_digits xs    the digits that xs begins with, 12 at the most
--   IsDigit b, AllDigits ds   the byte b is a digit; each byte of ds is
--   decimal ds           the number that digits spell
--   signed minus n       the amount of n cents, below 0 with a minus
--   digits_from m from xs  the amount whose digits begin at the index from of the line xs, behind a minus or not
--   amount_at xs at      the amount at the index at of the line xs with the index behind it, or the index at which it goes wrong
--   semicolon_at xs at   the index behind a semicolon at the index at, or at, where there is none
use Rattle.std.specs.Prelude.{ℕ, ◌+◌, ◌-◌, ◌*◌, Bool, true, false, if◌then◌else◌, ◌&&◌, List, length, take, drop, ℤ, pos, neg_ℤ, Ok, Err, fold, take_while, All, IsTrue, Result, ◌==◌, nat_lt, slice_index}
use Rattle.std.specs.Char.{is_ascii_digit}
use Rattle.statement.specs.declared.amount.Amount.{Amount}
use Rattle.statement.specs.declared.malformed.Malformed.{Malformed}

abbrev pub stands_at : List ℕ → ℕ → ℕ → Bool
stands_at xs at b = nat_lt at (length xs) && slice_index xs at == b

abbrev pub most_digits : ℕ
most_digits = 12

abbrev pub leading_digits : List ℕ → List ℕ
leading_digits xs = take_while is_ascii_digit (take most_digits xs)

abbrev pub IsDigit : ℕ → Type 0
IsDigit b = IsTrue (is_ascii_digit b)

abbrev pub AllDigits : List ℕ → Type 0
AllDigits ds = All IsDigit ds

abbrev pub decimal : List ℕ → ℕ
decimal ds = fold (λ n d. n * 10 + (d - 48)) 0 ds

abbrev pub signed : Bool → ℕ → ℤ
signed true n = neg_ℤ (pos n)
signed false n = pos n

abbrev pub digits_from : Bool → ℕ → List ℕ → Result Amount Malformed
digits_from minus from xs =
    let digits = leading_digits (drop from xs) in
    if length digits == 0
    then Err (record { at = from })
    else Ok (record { cents = signed minus (decimal digits); behind = from + length digits })

abbrev pub amount_at : List ℕ → ℕ → Result Amount Malformed
amount_at xs at = if stands_at xs at 45 then digits_from true (at + 1) xs else digits_from false at xs

abbrev pub semicolon_at : List ℕ → ℕ → Result ℕ Malformed
semicolon_at xs at = if stands_at xs at 59 then Ok (at + 1) else Err (record { at = at })
