-- One line more of a statement that passes by, and its end.
use Rattle.std.proofs.Common.{◌≡◌, ℕ, ◌+◌, ◌-◌, ◌<◌, Bool, true, false, List, [], ◌∷◌, ◌++◌, length, take, drop, vec_items, vec_len, sym, ap, ◌∙◌, subst, append_assoc, arith}
use lib.Seq.{take-append_seam, drop-append-add}
use Rattle.std.proofs.lemmas.List.{append-nil, drop-drop, nil_from_length}
use Rattle.std.proofs.lemmas.List.Elements.{All-head, All-tail}
use Rattle.std.proofs.lemmas.Bool.{le-ltb, lt-ltb, ne_eqb}
use Rattle.lines.specs.Lines.{line, line_bytes, line_end, lines_from}
use Rattle.lines.specs.declared.line.Line.{Line}
use Rattle.matching.specs.Pairings.{entries_from, entries_of, invoices_after, judged, settled_invoices}
use Rattle.matching.specs.declared.invoice.Invoice.{Invoice}
use Rattle.fetching.specs.Fetches.{CutOff, NoEnd}
use Rattle.fetching.specs.Passages.{Carries, Entered, Underway, entry_of}
use Rattle.fetching.specs.declared.progress.Progress.{Progress}

-- a line begun at s, read up to p, of which this text and an end are still to come
lines_ended : (s p : ℕ) (text rest : List ℕ) → NoEnd text → lines_from s p (text ++ line_end ∷ rest) ≡ line s (p + length text) true ∷ lines_from (p + length text + 1) (p + length text + 1) rest
lines_ended s p [] rest no_end = let e : p ≡ p + 0 = omega arith in ap (λ n. line s n true ∷ lines_from (n + 1) (n + 1) rest) e
lines_ended s p (b ∷ text) rest no_end =
    let e : p + 1 + length text ≡ p + length (b ∷ text) = omega arith in
    rw (ne_eqb b line_end (All-head (λ x. x ≡ line_end → ⊥) b text no_end)) (lines_ended s (p + 1) text rest (All-tail (λ x. x ≡ line_end → ⊥) b text no_end) ∙ ap (λ n. line s n true ∷ lines_from (n + 1) (n + 1) rest) e)

lines_unended : (s p : ℕ) (text : List ℕ) → NoEnd text → s < p + length text → lines_from s p text ≡ line s (p + length text) false ∷ []
lines_unended s p [] no_end less =
    let e : p ≡ p + 0 = omega arith in
    rw (lt-ltb s p (omega arith)) (ap (λ n. line s n false ∷ []) e)
lines_unended s p (b ∷ text) no_end less =
    let e : p + 1 + length text ≡ p + length (b ∷ text) = omega arith in
    rw (ne_eqb b line_end (All-head (λ x. x ≡ line_end → ⊥) b text no_end)) (lines_unended s (p + 1) text (All-tail (λ x. x ≡ line_end → ⊥) b text no_end) (omega arith) ∙ ap (λ n. line s n false ∷ []) e)

no_lines : (p : ℕ) → lines_from p p [] ≡ []
no_lines p = rw (le-ltb p p (omega arith))

-- the text of a line that stands at p, and what stands behind it
module _ (xs : List ℕ) (p : ℕ) (text rest : List ℕ) (stands : drop p xs ≡ text ++ rest) where
  text_at : (ended : Bool) → line_bytes xs (line p (p + length text) ended) ≡ text
  text_at ended =
      let e : p + length text - p ≡ length text = omega arith in
      ap (λ n. take n (drop p xs)) e ∙ ap (take (length text)) stands ∙ take-append_seam text rest

  behind_text : (n : ℕ) → drop (p + length text + n) xs ≡ drop n rest
  behind_text n =
      let e : p + length text + n ≡ p + (length text + n) = omega arith in
      ap (λ i. drop i xs) e ∙ sym (drop-drop (length text + n) p xs) ∙ ap (drop (length text + n)) stands ∙ drop-append-add text rest n

-- the next line l is entered, and these lines are still to come
module _ {I : Type 0} (xs ys : List ℕ) (p q : Progress I) (l : Line) (text : List ℕ) (read : line_bytes xs l ≡ text) (entered : Entered ys p l text q) (ls : List Line) where
  entries_more : vec_items q.entries ++ entries_from xs ys (vec_len q.entries) (vec_items q.open_items.invoices) ls ≡ vec_items p.entries ++ entries_from xs ys (vec_len p.entries) (vec_items p.open_items.invoices) (l ∷ ls)
  entries_more =
      let es = vec_items p.entries in
      let k = vec_len p.entries in
      let is = vec_items p.open_items.invoices in
      let later = λ (n : ℕ) (js : List Invoice). entries_from xs ys n js ls in
      ap (λ fs. fs ++ later (vec_len q.entries) (vec_items q.open_items.invoices)) entered.entries
      ∙ append_assoc es (entry_of ys p l text ∷ []) (later (vec_len q.entries) (vec_items q.open_items.invoices))
      ∙ ap (λ n. es ++ entry_of ys p l text ∷ later n (vec_items q.open_items.invoices)) entered.count
      ∙ ap (λ js. es ++ entry_of ys p l text ∷ later (k + 1) js) entered.invoices
      ∙ ap (λ bs. es ++ record { line = l; outcome = (judged ys k l bs is).0 } ∷ later (k + 1) (judged ys k l bs is).1) (sym read)

  invoices_more : invoices_after xs ys (vec_len q.entries) (vec_items q.open_items.invoices) ls ≡ invoices_after xs ys (vec_len p.entries) (vec_items p.open_items.invoices) (l ∷ ls)
  invoices_more =
      let k = vec_len p.entries in
      let is = vec_items p.open_items.invoices in
      ap (λ n. invoices_after xs ys n (vec_items q.open_items.invoices) ls) entered.count
      ∙ ap (λ js. invoices_after xs ys (k + 1) js ls) entered.invoices
      ∙ ap (λ bs. invoices_after xs ys (k + 1) (judged ys k l bs is).1 ls) (sym read)

-- a line with an end is passed
pub line_passed : {I : Type 0} (ys : List ℕ) (p q : Progress I) (l : Line) (text : List ℕ) (n : ℕ) → l ≡ line p.position (p.position + length text) true → Entered ys p l text q → n ≡ p.position + length text + 1 → NoEnd text → Carries ys p (text ++ line_end ∷ []) (record q { position = n }) []
line_passed ys p q l text n is entered moved no_end xs rest to-come =
    let under = subst (Underway xs ys p) (append_assoc text (line_end ∷ []) rest) to-come in
    let at = p.position in
    let here = line at (at + length text) true in
    let read = text_at xs at text (line_end ∷ rest) under.behind true in
    let judged = subst (λ (m : Line). Entered ys p m text q) is entered in
    let next = lines_from n n rest in
    let same : lines_from at at (text ++ line_end ∷ rest) ≡ here ∷ next = lines_ended at at text rest no_end ∙ ap (λ (i : ℕ). here ∷ lines_from i i rest) (sym moved) in
    record {
      behind = ap (λ i. drop i xs) moved ∙ behind_text xs at text (line_end ∷ rest) under.behind 1;
      entries = entries_more xs ys p q here text read judged next ∙ ap (λ ls. vec_items p.entries ++ entries_from xs ys (vec_len p.entries) (vec_items p.open_items.invoices) ls) (sym same) ∙ under.entries;
      invoices = invoices_more xs ys p q here text read judged next ∙ ap (invoices_after xs ys (vec_len p.entries) (vec_items p.open_items.invoices)) (sym same) ∙ under.invoices;
    }

-- the next line is cut off the bytes v, and passed
pub carried_on : {I : Type 0} (ys : List ℕ) (o p q : Progress I) (u v line text v' : List ℕ) → Carries ys o u p v → CutOff v line v' → text ≡ line → (NoEnd text → Carries ys p (text ++ line_end ∷ []) q []) → Carries ys o u q v'
carried_on ys o p q u v line text v' so_far cut same passes xs later under =
    let split : v ++ later ≡ (text ++ line_end ∷ []) ++ (v' ++ later) =
    ap (λ bs. bs ++ later) (cut.rejoined ∙ ap (λ bs. bs ++ line_end ∷ v') (sym same))
    ∙ append_assoc text (line_end ∷ v') later
    ∙ sym (append_assoc text (line_end ∷ []) (v' ++ later)) in
    passes (subst NoEnd (sym same) cut.no_end) xs (v' ++ later) (subst (Underway xs ys p) split (so_far xs later under))

-- no line is left in what is shown
pub carried_all : {I : Type 0} (ys : List ℕ) (o p : Progress I) (u v v' : List ℕ) → Carries ys o u p v → v' ≡ v → Carries ys o u p v'
carried_all ys o p u v v' so_far same = subst (λ (w : List ℕ). Carries ys o u p w) (sym same) so_far

-- the next chunk of the source is put behind the bytes v, and what is then shown is carried on
pub chunk_carried : {I : Type 0} (xs ys : List ℕ) (p q : Progress I) (v w shown chunk rest rest' : List ℕ) → rest ≡ chunk ++ rest' → shown ≡ v ++ chunk → Carries ys p shown q w → Underway xs ys p (v ++ rest) → Underway xs ys q (w ++ rest')
chunk_carried xs ys p q v w shown chunk rest rest' cut extended carries under =
    let split : v ++ rest ≡ shown ++ rest' = ap (λ bs. v ++ bs) cut ∙ sym (append_assoc v chunk rest') ∙ ap (λ bs. bs ++ rest') (sym extended) in
    carries xs rest' (subst (Underway xs ys p) split under)

-- the source is at its end
pub source_carried : {I : Type 0} (xs ys : List ℕ) (p : Progress I) (v rest text : List ℕ) → length rest ≡ 0 → text ≡ v → Underway xs ys p (v ++ rest) → Underway xs ys p text
source_carried xs ys p v rest text none same under = subst (Underway xs ys p) (ap (λ bs. v ++ bs) (nil_from_length rest none) ∙ append-nil v ∙ sym same) under

-- the whole statement is passed
abbrev pub Passed : {I : Type 0} → List ℕ → List ℕ → Progress I → Type 0
Passed xs ys p = (vec_items p.entries ≡ entries_of xs ys) × (vec_items p.open_items.invoices ≡ settled_invoices xs ys)

-- nothing is left
pub all_passed : {I : Type 0} (xs ys : List ℕ) (p : Progress I) (text : List ℕ) → length text ≡ 0 → Underway xs ys p text → Passed xs ys p
all_passed xs ys p [] none under = (
  sym (ap (λ ls. vec_items p.entries ++ entries_from xs ys (vec_len p.entries) (vec_items p.open_items.invoices) ls) (no_lines p.position) ∙ append-nil (vec_items p.entries)) ∙ under.entries,
  sym (ap (invoices_after xs ys (vec_len p.entries) (vec_items p.open_items.invoices)) (no_lines p.position)) ∙ under.invoices,
)
all_passed xs ys p (b ∷ text) none under = absurd (omega arith)

-- a line without an end is all that is left, and is passed
pub last_passed : {I : Type 0} (xs ys : List ℕ) (p q : Progress I) (l : Line) (text : List ℕ) → l ≡ line p.position (p.position + length text) false → Entered ys p l text q → 0 < length text → NoEnd text → Underway xs ys p text → Passed xs ys q
last_passed xs ys p q l text is entered some no_end under =
    let at = p.position in
    let here = line at (at + length text) false in
    let read = text_at xs at text [] (under.behind ∙ sym (append-nil text)) false in
    let judged = subst (λ (m : Line). Entered ys p m text q) is entered in
    let same = lines_unended at at text no_end (omega arith) in (
      sym (append-nil (vec_items q.entries)) ∙ entries_more xs ys p q here text read judged [] ∙ ap (λ ls. vec_items p.entries ++ entries_from xs ys (vec_len p.entries) (vec_items p.open_items.invoices) ls) (sym same) ∙ under.entries,
      invoices_more xs ys p q here text read judged [] ∙ ap (invoices_after xs ys (vec_len p.entries) (vec_items p.open_items.invoices)) (sym same) ∙ under.invoices,
    )
