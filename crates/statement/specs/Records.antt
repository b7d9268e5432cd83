-- What the lines of a statement and of the invoices say, and where a line that says nothing goes wrong.
--   r >>= f             f of what r found, or the place at which r went wrong; a `do` block takes such steps one after another
--   part_bytes xs p     the bytes of the part p of the line xs
--   worded_at xs at     an amount from the index at on, a semicolon, and a text up to the end of the line
--   balance_of xs       behind a letter: a semicolon and an amount, and nothing behind it
--   behind_letter xs    behind a letter: a semicolon, an amount, a semicolon and a text
--   record_of xs        what the statement line xs says, by its first letter
--   if_ended l xs r     what was read of the line l with the text xs; where its end is missing, it goes wrong there
--   ended_record l xs   what the statement line l with the text xs says, its end included
use Rattle.std.specs.Prelude.{ℕ, ◌-◌, if◌then◌else◌, List, length, take, drop, ℤ, Ok, Err, Result, ◌==◌}
use Rattle.statement.specs.Amounts.{amount_at, semicolon_at, stands_at}
use Rattle.lines.specs.declared.line.Line.{Line}
use Rattle.statement.specs.declared.malformed.Malformed.{Malformed}
use Rattle.statement.specs.declared.record.Part.{Part}
use Rattle.statement.specs.declared.record.Record.{Record}
use Rattle.statement.specs.declared.record.Record.TheVariants.{Balance, Payment, Charge, Return}
use Rattle.statement.specs.declared.record.Worded.{Worded}

infixl 10 ◌>>=◌
abbrev pub ◌>>=◌ : {A B : Type 0} → Result A Malformed → (A → Result B Malformed) → Result B Malformed
(Ok x) >>= f = f x
(Err e) >>= f = Err e

abbrev pub part_bytes : List ℕ → Part → List ℕ
part_bytes xs p = take p.length (drop p.start xs)

abbrev pub worded_at : List ℕ → ℕ → Result Worded Malformed
worded_at xs at = do
  amount ← amount_at xs at
  start ← semicolon_at xs amount.behind
  Ok (record { amount = amount.cents; text = record { start = start; length = length xs - start } })

abbrev pub balance_of : List ℕ → Result ℤ Malformed
balance_of xs = do
  at ← semicolon_at xs 1
  amount ← amount_at xs at
  if amount.behind == length xs then Ok amount.cents else Err (record { at = amount.behind })

abbrev pub behind_letter : List ℕ → Result Worded Malformed
behind_letter xs = do
  at ← semicolon_at xs 1
  worded_at xs at

-- the letters B, P, C and R
abbrev pub record_of : List ℕ → Result Record Malformed
record_of xs =
    if stands_at xs 0 66 then (balance_of xs >>= λ amount. Ok (Balance amount)) else (
    if stands_at xs 0 80 then (behind_letter xs >>= λ worded. Ok (Payment worded)) else (
    if stands_at xs 0 67 then (behind_letter xs >>= λ worded. Ok (Charge worded)) else (
    if stands_at xs 0 82 then (behind_letter xs >>= λ worded. Ok (Return worded)) else
    Err (record { at = 0 }))))

abbrev pub if_ended : {A : Type 0} → Line → List ℕ → Result A Malformed → Result A Malformed
if_ended line text r = do
  said ← r
  if line.ended then Ok said else Err (record { at = length text })

abbrev pub ended_record : Line → List ℕ → Result Record Malformed
ended_record line text = if_ended line text (record_of text)
