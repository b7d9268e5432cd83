-- What is read from a line of each form, lawful or not.
--   WordedLetter l make   the letter l begins the records that make makes of an amount and a text
--   Letter l               l begins some record
--   Wrong front rest       a line front ++ rest goes wrong where front ends: a lawful one begins with front and does not go on as rest does
use Rattle.std.proofs.Common.{◌≡◌, ℕ, ◌+◌, ◌-◌, Bool, if◌then◌else◌, ◌==◌, List, [], ◌∷◌, ◌++◌, length, ℤ, Ok, Err, sym, refl, ap, ◌∙◌, inr, arith, length-append}
use Rattle.std.proofs.lemmas.List.{append-nil}
use Rattle.std.proofs.lemmas.Bool.{ne_eqb, eq-eqb}
use Rattle.statement.specs.Amounts.{most_digits, semicolon_at, amount_at}
use Rattle.statement.specs.Grammar.{sign, Spells, SaysBalance, SaysWorded, Says}
use Rattle.statement.specs.Records.{◌>>=◌, balance_of, behind_letter, record_of}
use Rattle.statement.specs.declared.malformed.Malformed.{Malformed}
use Rattle.statement.specs.declared.record.Record.{Record}
use Rattle.statement.specs.declared.record.Record.TheVariants.{Balance, Payment, Charge, Return}
use Rattle.statement.specs.declared.record.Worded.{Worded}
use Rattle.statement.proofs.AmountReads.{Ended, Other, Unspelt, stands_next, other_next, spelt_reads, unspelt_reads}

pub data WordedLetter : ℕ → (Worded → Record) → Type 0 where
  payment : WordedLetter 80 Payment
  charge : WordedLetter 67 Charge
  return : WordedLetter 82 Return

pub data Letter : ℕ → Type 0 where
  balance : Letter 66
  worded : {l : ℕ} {make : Worded → Record} → WordedLetter l make → Letter l

pub data Wrong : List ℕ → List ℕ → Type 0 where
  no_letter : {rest : List ℕ} → ((b : ℕ) → Letter b → Other b rest) → Wrong [] rest
  no_semicolon : {l : ℕ} {rest : List ℕ} → Letter l → Other 59 rest → Wrong (l ∷ []) rest
  no_amount : {l : ℕ} {rest : List ℕ} (minus : Bool) → Letter l → Unspelt minus rest → Wrong (l ∷ 59 ∷ sign minus) rest
  no_end : {c : ℕ} {a rest : List ℕ} {z : ℤ} → (s : Spells a z) → Ended most_digits s.digits (c ∷ rest) → Wrong (66 ∷ 59 ∷ a) (c ∷ rest)
  no_text : {l : ℕ} {make : Worded → Record} {a rest : List ℕ} {z : ℤ} → WordedLetter l make → (s : Spells a z) → Ended most_digits s.digits rest → Other 59 rest → Wrong (l ∷ 59 ∷ a) rest

-- whether a line goes wrong behind a front hangs on the next byte alone
pub wrong_with : {front : List ℕ} {c : ℕ} {rest : List ℕ} → Wrong front (c ∷ rest) → (other : List ℕ) → Wrong front (c ∷ other)
wrong_with (no_letter h) other = no_letter h
wrong_with (no_semicolon l h) other = no_semicolon l h
wrong_with (no_amount minus l h) other = no_amount minus l h
wrong_with (no_end s e) other = no_end s e
wrong_with (no_text l s e h) other = no_text l s e h

pub says_worded : {l : ℕ} {make : Worded → Record} {xs : List ℕ} {w : Worded} → WordedLetter l make → SaysWorded l xs w → Says xs (make w)
says_worded payment s = s
says_worded charge s = s
says_worded return s = s

balance_read : (rest : List ℕ) → record_of (66 ∷ rest) ≡ (balance_of (66 ∷ rest) >>= λ amount. Ok (Balance amount))
balance_read rest = rw (stands_next [] 66 66 rest)

worded_read : {l : ℕ} {make : Worded → Record} → WordedLetter l make → (rest : List ℕ) → record_of (l ∷ rest) ≡ (behind_letter (l ∷ rest) >>= λ w. Ok (make w))
worded_read payment rest = rw (stands_next [] 80 66 rest, stands_next [] 80 80 rest)
worded_read charge rest = rw (stands_next [] 67 66 rest, stands_next [] 67 67 rest)
worded_read return rest = rw (stands_next [] 82 66 rest, stands_next [] 82 82 rest)

semicolon_read : (front rest : List ℕ) → semicolon_at (front ++ 59 ∷ rest) (length front) ≡ Ok (length front + 1)
semicolon_read front rest = rw (stands_next front 59 59 rest)

no_semicolon_read : (front rest : List ℕ) → Other 59 rest → semicolon_at (front ++ rest) (length front) ≡ Err (record { at = length front })
no_semicolon_read front rest h = rw (other_next front 59 rest h)

-- where the semicolon fails, or the amount
semicolon_fails : {l : ℕ} → Letter l → (rest : List ℕ) (m : Malformed) → semicolon_at (l ∷ rest) 1 ≡ Err m → record_of (l ∷ rest) ≡ Err m
semicolon_fails balance rest m e = rw (balance_read rest, e)
semicolon_fails (worded k) rest m e = rw (worded_read k rest, e)

amount_fails : {l : ℕ} → Letter l → (rest : List ℕ) (m : Malformed) → amount_at (l ∷ 59 ∷ rest) 2 ≡ Err m → record_of (l ∷ 59 ∷ rest) ≡ Err m
amount_fails balance rest m e = rw (balance_read (59 ∷ rest), semicolon_read (66 ∷ []) rest, e)
amount_fails (worded {l} k) rest m e = rw (worded_read k (59 ∷ rest), semicolon_read (l ∷ []) rest, e)

-- where both stand
balance_behind : {a : List ℕ} {z : ℤ} (s : Spells a z) (rest : List ℕ) → Ended most_digits s.digits rest → record_of (66 ∷ 59 ∷ (a ++ rest)) ≡ ((if length (66 ∷ 59 ∷ a) == length (66 ∷ 59 ∷ (a ++ rest)) then Ok z else Err (record { at = length (66 ∷ 59 ∷ a) })) >>= λ amount. Ok (Balance amount))
balance_behind {a} {z} s rest e = rw (balance_read (59 ∷ (a ++ rest)), semicolon_read (66 ∷ []) (a ++ rest), spelt_reads 66 a z s rest e)

worded_behind : {l : ℕ} {make : Worded → Record} {a : List ℕ} {z : ℤ} → WordedLetter l make → (s : Spells a z) (rest : List ℕ) → Ended most_digits s.digits rest → record_of (l ∷ 59 ∷ (a ++ rest)) ≡ (semicolon_at (l ∷ 59 ∷ (a ++ rest)) (length (l ∷ 59 ∷ a)) >>= (λ start. Ok (record { amount = z; text = record { start = start; length = length (l ∷ 59 ∷ (a ++ rest)) - start } })) >>= λ w. Ok (make w))
worded_behind {l} {make} {a} {z} k s rest e = rw (worded_read k (59 ∷ (a ++ rest)), semicolon_read (l ∷ []) (a ++ rest), spelt_reads l a z s rest e)

-- a lawful line is read as what it says
said_balance : (xs : List ℕ) (z : ℤ) → SaysBalance xs z → record_of xs ≡ Ok (Balance z)
said_balance xs z s =
    let a = s.amount in
    ap record_of (s.written ∙ ap (λ b. 66 ∷ 59 ∷ b) (sym (append-nil a)))
    ∙ balance_behind s.spelt [] (inr tt)
    ∙ rw (eq-eqb (length (66 ∷ 59 ∷ a)) (length (66 ∷ 59 ∷ (a ++ []))) (omega (arith, length-append {A = ℕ} a [])))

said_worded : {l : ℕ} {make : Worded → Record} → WordedLetter l make → (xs : List ℕ) (w : Worded) → SaysWorded l xs w → record_of xs ≡ Ok (make w)
said_worded {l} {make} k xs w s =
    let a = s.amount in
    let start : length (l ∷ 59 ∷ a) + 1 ≡ w.text.start = omega arith in
    let size : length (l ∷ 59 ∷ (a ++ 59 ∷ s.text)) - w.text.start ≡ w.text.length = omega (arith, length-append a (59 ∷ s.text)) in
    ap record_of s.written
    ∙ worded_behind k s.spelt (59 ∷ s.text) (inr refl)
    ∙ rw (semicolon_read (l ∷ 59 ∷ a) s.text, start, size)

pub said_right : (xs : List ℕ) (r : Record) → Says xs r → record_of xs ≡ Ok r
said_right xs (Balance z) s = said_balance xs z s
said_right xs (Payment w) s = said_worded payment xs w s
said_right xs (Charge w) s = said_worded charge xs w s
said_right xs (Return w) s = said_worded return xs w s

pub wrong_read : {front rest : List ℕ} → Wrong front rest → record_of (front ++ rest) ≡ Err (record { at = length front })
wrong_read (no_letter {rest} h) = rw (other_next [] 66 rest (h 66 balance), other_next [] 80 rest (h 80 (worded payment)), other_next [] 67 rest (h 67 (worded charge)), other_next [] 82 rest (h 82 (worded return)))
wrong_read (no_semicolon {l} {rest} k h) = semicolon_fails k rest (record { at = 1 }) (no_semicolon_read (l ∷ []) rest h)
wrong_read (no_amount {l} {rest} minus k h) = amount_fails k (sign minus ++ rest) _ (unspelt_reads l minus rest h)
wrong_read (no_end {c} {a} {rest} s e) = balance_behind s (c ∷ rest) e ∙ rw (ne_eqb (length (66 ∷ 59 ∷ a)) (length (66 ∷ 59 ∷ (a ++ c ∷ rest))) (omega (arith, length-append a (c ∷ rest))))
wrong_read (no_text {l} {make} {a} {rest} k s e h) = worded_behind k s rest e ∙ rw (no_semicolon_read (l ∷ 59 ∷ a) rest h)
