-- What a line of a statement is, apart from how it is read, and the law that every line is read so.
--   sign minus            a minus, or nothing
--   Spells a z            a is an optional minus and 1 to 12 digits, and spells the amount z
--   SaysBalance xs z     the line xs is B, a semicolon, and an amount that spells z
--   SaysWorded l xs w    the line xs is the letter l, a semicolon, the amount of w, a semicolon, and the text of w
--   Says xs r             the line xs says the record r
--   Lawful xs             the line xs says some record
--   Begins xs             xs can go on to a lawful line
--   ReadRight xs         a lawful line is read as what it says; any other, up to the first byte with which no lawful line goes on
use Rattle.std.specs.Prelude.{◌≡◌, ℕ, ◌+◌, ◌<◌, ◌≤◌, Bool, if◌then◌else◌, List, [], ◌∷◌, ◌++◌, length, take, ℤ, Ok, Err}
use Rattle.statement.specs.Amounts.{AllDigits, decimal, most_digits, signed}
use Rattle.statement.specs.Records.{record_of}
use Rattle.statement.specs.declared.malformed.Malformed.{Malformed}
use Rattle.statement.specs.declared.record.Record.{Record}
use Rattle.statement.specs.declared.record.Record.TheVariants.{Balance, Payment, Charge, Return}
use Rattle.statement.specs.declared.record.Worded.{Worded}

abbrev pub sign : Bool → List ℕ
sign minus = if minus then 45 ∷ [] else []

pub record Spells (a : List ℕ) (z : ℤ) : Type 0 where
  pub minus : Bool
  pub digits : List ℕ
  pub written : a ≡ sign minus ++ digits
  pub all_digits : AllDigits digits
  pub some : 0 < length digits
  pub few : length digits ≤ most_digits
  pub value : z ≡ signed minus (decimal digits)

pub record SaysBalance (xs : List ℕ) (z : ℤ) : Type 0 where
  pub amount : List ℕ
  pub spelt : Spells amount z
  pub written : xs ≡ 66 ∷ 59 ∷ amount

pub record SaysWorded (letter : ℕ) (xs : List ℕ) (w : Worded) : Type 0 where
  pub amount : List ℕ
  pub text : List ℕ
  pub spelt : Spells amount w.amount
  pub written : xs ≡ letter ∷ 59 ∷ (amount ++ 59 ∷ text)
  pub start : w.text.start ≡ 3 + length amount
  pub size : w.text.length ≡ length text

abbrev pub Says : List ℕ → Record → Type 0
Says xs (Balance z) = SaysBalance xs z
Says xs (Payment w) = SaysWorded 80 xs w
Says xs (Charge w) = SaysWorded 67 xs w
Says xs (Return w) = SaysWorded 82 xs w

abbrev pub Lawful : List ℕ → Type 0
Lawful xs = (r : Record) × Says xs r

abbrev pub Begins : List ℕ → Type 0
Begins xs = (ys : List ℕ) × Lawful (xs ++ ys)

pub record ReadRight (xs : List ℕ) : Type 0 where
  pub says : (r : Record) → record_of xs ≡ Ok r → Says xs r
  pub said : (r : Record) → Says xs r → record_of xs ≡ Ok r
  pub unlawful : (m : Malformed) → record_of xs ≡ Err m → Lawful xs → ⊥
  -- where a malformed line goes wrong
  pub within : (m : Malformed) → record_of xs ≡ Err m → m.at ≤ length xs
  pub goes_on : (m : Malformed) → record_of xs ≡ Err m → Begins (take m.at xs)
  pub stops : (m : Malformed) → record_of xs ≡ Err m → m.at < length xs → Begins (take (m.at + 1) xs) → ⊥
