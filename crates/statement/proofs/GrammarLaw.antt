-- Every line is read right: it is lawful, or it goes wrong behind some front.
--   GoesWrong xs     xs in two: what a lawful line can begin with, and what goes wrong behind it
use Rattle.std.proofs.Common.{◌≡◌, ℕ, ◌+◌, ◌<◌, ◌≤◌, Bool, false, ◌⊎◌, List, [], ◌∷◌, ◌++◌, length, take, ℤ, Ok, Err, sym, refl, ap, ◌∙◌, subst, inl, inr, ⊎_elim, append_assoc, arith, length-append}
use Rattle.std.proofs.lemmas.List.{append-nil, take_at}
use Rattle.std.proofs.lemmas.List.Elements.{All-nil, All-cons}
use Rattle.std.proofs.lemmas.Bool.{cases_eq}
use Rattle.statement.specs.Amounts.{IsDigit, most_digits, signed}
use Rattle.statement.specs.Grammar.{sign, Spells, Says, Lawful, Begins, ReadRight}
use Rattle.statement.specs.Records.{record_of}
use Rattle.statement.specs.declared.malformed.Malformed.{Malformed}
use Rattle.statement.specs.declared.record.Record.{Record}
use Rattle.statement.specs.declared.record.Record.TheVariants.{Balance}
use Rattle.statement.specs.declared.record.Worded.{Worded}
use Rattle.statement.proofs.AmountReads.{Ended, AmountFirst, spelt, unspelt, amount_first}
use Rattle.statement.proofs.RecordReads.{WordedLetter, payment, charge, return, Letter, balance, worded, Wrong, no_letter, no_semicolon, no_amount, no_end, no_text, wrong_with, says_worded, said_right, wrong_read}

lawful_balance : {a : List ℕ} {z : ℤ} → Spells a z → Lawful (66 ∷ 59 ∷ (a ++ []))
lawful_balance {a} {z} s = (Balance z, record { amount = a; spelt = s; written = ap (λ b. 66 ∷ 59 ∷ b) (append-nil a) })

lawful_worded : {l : ℕ} {make : Worded → Record} {a : List ℕ} {z : ℤ} → WordedLetter l make → Spells a z → (text : List ℕ) → Lawful (l ∷ 59 ∷ (a ++ 59 ∷ text))
lawful_worded {make = make} {a = a} {z = z} k s text =
    let w : Worded = record { amount = z; text = record { start = 3 + length a; length = length text } } in
    (make w, says_worded k (record { amount = a; text = text; spelt = s; written = refl; start = refl; size = refl }))

-- how each front goes on to a lawful line
letter_begins : {l : ℕ} {a : List ℕ} {z : ℤ} → Letter l → Spells a z → Begins (l ∷ 59 ∷ a)
letter_begins balance s = ([], lawful_balance s)
letter_begins (worded k) s = (59 ∷ [], lawful_worded k s [])

front_begins : (front more : List ℕ) → Begins (front ++ more) → Begins front
front_begins front more b = (more ++ b.0, subst Lawful (append_assoc front more b.0) b.1)

zero_spelt : (minus : Bool) → Spells (sign minus ++ 48 ∷ []) (signed minus 0)
zero_spelt minus = record { minus = minus; digits = 48 ∷ []; written = refl; all_digits = All-cons IsDigit 48 [] refl (All-nil IsDigit); some = omega arith; few = omega arith; value = refl }

wrong_begins : {front rest : List ℕ} → Wrong front rest → Begins front
wrong_begins (no_letter h) = front_begins [] (66 ∷ 59 ∷ 48 ∷ []) (letter_begins balance (zero_spelt false))
wrong_begins (no_semicolon {l} k h) = front_begins (l ∷ []) (59 ∷ 48 ∷ []) (letter_begins k (zero_spelt false))
wrong_begins (no_amount {l} minus k h) = front_begins (l ∷ 59 ∷ sign minus) (48 ∷ []) (letter_begins k (zero_spelt minus))
wrong_begins (no_end s e) = letter_begins balance s
wrong_begins (no_text k s e h) = letter_begins (worded k) s

record GoesWrong (xs : List ℕ) : Type 0 where
  front : List ℕ
  rest : List ℕ
  written : xs ≡ front ++ rest
  wrong : Wrong front rest

cases_behind_amount : {l : ℕ} {a : List ℕ} {z : ℤ} → Letter l → (s : Spells a z) (rest : List ℕ) → Ended most_digits s.digits rest → Lawful (l ∷ 59 ∷ (a ++ rest)) ⊎ GoesWrong (l ∷ 59 ∷ (a ++ rest))
cases_behind_amount balance s [] e = inl (lawful_balance s)
cases_behind_amount {a = a} balance s (c ∷ rest) e = inr (record { front = 66 ∷ 59 ∷ a; rest = c ∷ rest; written = refl; wrong = no_end s e })
cases_behind_amount {a = a} (worded {l} k) s [] e = inr (record { front = l ∷ 59 ∷ a; rest = []; written = refl; wrong = no_text k s e tt })
cases_behind_amount {a = a} (worded {l} k) s (c ∷ rest) e =
    ⊎_elim
    (λ same. inl (rw same (lawful_worded k s rest)))
    (λ other. inr (record { front = l ∷ 59 ∷ a; rest = c ∷ rest; written = refl; wrong = no_text k s e other }))
    (cases_eq c 59)

cases_behind_semicolon : {l : ℕ} {xs : List ℕ} → Letter l → AmountFirst xs → Lawful (l ∷ 59 ∷ xs) ⊎ GoesWrong (l ∷ 59 ∷ xs)
cases_behind_semicolon k (spelt s rest e) = cases_behind_amount k s rest e
cases_behind_semicolon {l} k (unspelt minus rest h) = inr (record { front = l ∷ 59 ∷ sign minus; rest = rest; written = refl; wrong = no_amount minus k h })

cases_behind_letter : {l : ℕ} → Letter l → (xs : List ℕ) → Lawful (l ∷ xs) ⊎ GoesWrong (l ∷ xs)
cases_behind_letter {l} k [] = inr (record { front = l ∷ []; rest = []; written = refl; wrong = no_semicolon k tt })
cases_behind_letter {l} k (c ∷ xs) =
    ⊎_elim
    (λ same. rw same (cases_behind_semicolon k (amount_first xs)))
    (λ other. inr (record { front = l ∷ []; rest = c ∷ xs; written = refl; wrong = no_semicolon k other }))
    (cases_eq c 59)

module _ (c : ℕ) where
  other_letter : (c ≡ 66 → ⊥) → (c ≡ 80 → ⊥) → (c ≡ 67 → ⊥) → (c ≡ 82 → ⊥) → {b : ℕ} → Letter b → c ≡ b → ⊥
  other_letter no-B no-P no-C no-R balance e = no-B e
  other_letter no-B no-P no-C no-R (worded payment) e = no-P e
  other_letter no-B no-P no-C no-R (worded charge) e = no-C e
  other_letter no-B no-P no-C no-R (worded return) e = no-R e

  cases_letter : Letter c ⊎ ((b : ℕ) → Letter b → c ≡ b → ⊥)
  cases_letter =
      ⊎_elim (λ e. inl (rw e balance)) (λ no-B.
      ⊎_elim (λ e. inl (rw e (worded payment))) (λ no-P.
      ⊎_elim (λ e. inl (rw e (worded charge))) (λ no-C.
      ⊎_elim (λ e. inl (rw e (worded return))) (λ no-R. inr (λ b. other_letter no-B no-P no-C no-R))
      (cases_eq c 82)) (cases_eq c 67)) (cases_eq c 80)) (cases_eq c 66)

every_line : (xs : List ℕ) → Lawful xs ⊎ GoesWrong xs
every_line [] = inr (record { front = []; rest = []; written = refl; wrong = no_letter (λ b k. tt) })
every_line (x ∷ xs) =
    ⊎_elim
    (λ k. cases_behind_letter k xs)
    (λ none. inr (record { front = []; rest = x ∷ xs; written = refl; wrong = no_letter none }))
    (cases_letter x)

no_lawful_read : (xs : List ℕ) (m : Malformed) → record_of xs ≡ Err m → Lawful xs → ⊥
no_lawful_read xs m failed (r, s) = let read = said_right xs r s in cc

wrong_stops : (front rest : List ℕ) → Wrong front rest → 0 < length rest → Begins (take (length front + 1) (front ++ rest)) → ⊥
wrong_stops front [] w some b = omega arith
wrong_stops front (c ∷ rest) w some b =
    let longer : take (length front + 1) (front ++ c ∷ rest) ≡ front ++ c ∷ [] = ap (take (length front + 1)) (sym (append_assoc front (c ∷ []) rest)) ∙ take_at (front ++ c ∷ []) rest (length front + 1) (length-append front (c ∷ [])) in
    let (ys, lawful) = subst Begins longer b in
    no_lawful_read (front ++ c ∷ ys) (record { at = length front }) (wrong_read (wrong_with w ys)) (subst Lawful (append_assoc front (c ∷ []) ys) lawful)

says_right : (xs : List ℕ) (r : Record) → record_of xs ≡ Ok r → Says xs r
says_right xs r read =
    ⊎_elim
    (λ lawful. let said = said_right xs lawful.0 lawful.1 in subst (Says xs) (cc) lawful.1)
    (λ g. let failed = wrong_read g.wrong in let whole = g.written in cc)
    (every_line xs)

module _ (xs : List ℕ) (m : Malformed) (failed : record_of xs ≡ Err m) where
  -- the line goes wrong where its front ends
  goes_wrong : (g : GoesWrong xs) × (length g.front ≡ m.at)
  goes_wrong =
      ⊎_elim
      (λ lawful. absurd (no_lawful_read xs m failed lawful))
      (λ g. let read = wrong_read g.wrong in let whole = g.written in (g, cc))
      (every_line xs)

  wrong_within : m.at ≤ length xs
  wrong_within = let (g, at) = goes_wrong in omega (arith, ap length g.written, length-append g.front g.rest)

  front_goes_on : Begins (take m.at xs)
  front_goes_on =
      let (g, at) = goes_wrong in
      subst Begins (sym (ap (take m.at) g.written ∙ take_at g.front g.rest m.at at)) (wrong_begins g.wrong)

  next_stops : m.at < length xs → Begins (take (m.at + 1) xs) → ⊥
  next_stops inside b =
      let (g, at) = goes_wrong in
      let whole = g.written in
      let longer : take (m.at + 1) xs ≡ take (length g.front + 1) (g.front ++ g.rest) = cc in
      wrong_stops g.front g.rest g.wrong (omega (arith, ap length g.written, length-append g.front g.rest)) (subst Begins longer b)

pub reads_right : (xs : List ℕ) → ReadRight xs
reads_right xs = record { says = says_right xs; said = said_right xs; unlawful = no_lawful_read xs; within = wrong_within xs; goes_on = front_goes_on xs; stops = next_stops xs }
