-- The lines of a text are the text, cut behind each of its line ends.
use Rattle.std.proofs.Common.{◌≡◌, All, ℕ, zero, suc, ◌+◌, ◌-◌, ◌<◌, ◌≤◌, true, false, eqb, ltb, List, [], ◌∷◌, ◌++◌, length, get_or, take, drop, sym, refl, ap, ◌∙◌, subst, arith, length-drop}
use Rattle.std.specs.List.{flat_map}
use Rattle.std.proofs.lemmas.List.Elements.{All-nil, All-cons, All-more}
use Rattle.std.proofs.lemmas.List.{append-nil, append_assoc, take-append-drop, take_all, drop-drop, drop_more, drop_all, get_or-drop}
use Rattle.std.proofs.lemmas.Bool.{cond_both, eqb-true, eqb-false, ltb-false}
use Rattle.lines.specs.LineLaw.{CutIntoLines}
use Rattle.lines.specs.Lines.{line_end, line, lines_from, lines_of, line_bytes, with_end}
use Rattle.lines.specs.declared.line.Line.{Line}

abbrev Within : ℕ → Line → Type 0
Within n l = l.span.start + l.span.length ≤ n

abbrev NoEnd : List ℕ → Type 0
NoEnd bs = All (λ b. b ≡ line_end → ⊥) bs

abbrev EndedButLast : List Line → Type 0
EndedButLast ls = (k : ℕ) (d : Line) → k + 1 < length ls → (get_or ls k d).ended ≡ true

inside_from : (n s p : ℕ) (xs : List ℕ) → s ≤ p → p + length xs ≡ n → All (Within n) (lines_from s p xs)
inside_from n s p [] h e =
    cond_both (ltb s p) (line s p false ∷ []) [] (All (Within n)) (λ _. All-cons (Within n) (line s p false) [] (omega arith) (All-nil (Within n))) (λ _. All-nil (Within n))
inside_from n s p (x ∷ xs) h e =
    cond_both (eqb x line_end) (line s p true ∷ lines_from (p + 1) (p + 1) xs) (lines_from s (p + 1) xs) (All (Within n))
    (λ _. All-cons (Within n) (line s p true) _ (omega arith) (inside_from n (p + 1) (p + 1) xs (omega arith) (omega arith)))
    (λ _. inside_from n s (p + 1) xs (omega arith) (omega arith))

pub lines_inside : (xs : List ℕ) → All (λ l. l.span.start + l.span.length ≤ length xs) (lines_of xs)
lines_inside xs = inside_from (length xs) 0 0 xs (omega arith) (omega arith)

ended_more : (l : Line) (ls : List Line) → l.ended ≡ true → EndedButLast ls → EndedButLast (l ∷ ls)
ended_more l ls e h zero d b = e
ended_more l ls e h (suc k) d b = h k d (omega arith)

ended_from : (s p : ℕ) (xs : List ℕ) → EndedButLast (lines_from s p xs)
ended_from s p [] =
    cond_both (ltb s p) (line s p false ∷ []) [] EndedButLast (λ _ k d h. absurd (omega arith)) (λ _ k d h. absurd (omega arith))
ended_from s p (x ∷ xs) =
    cond_both (eqb x line_end) (line s p true ∷ lines_from (p + 1) (p + 1) xs) (lines_from s (p + 1) xs) EndedButLast
    (λ _. ended_more (line s p true) (lines_from (p + 1) (p + 1) xs) refl (ended_from (p + 1) (p + 1) xs))
    (λ _. ended_from s (p + 1) xs)

-- what is left of the text t at p begins with x
module _ (t : List ℕ) (p x : ℕ) (xs : List ℕ) (e : drop p t ≡ x ∷ xs) where
  before_end : p < length t
  before_end = omega (arith, length-drop p t, ap length e)

  byte_at : get_or t p 0 ≡ x
  byte_at = let more = drop_more t p 0 before_end in cc

  rest_at : drop (p + 1) t ≡ xs
  rest_at = let more = drop_more t p 0 before_end in cc

-- the last line of the text t begun at s, read up to p
module _ (t : List ℕ) (s p : ℕ) (h : s ≤ p) where
  behind_read : drop (p - s) (drop s t) ≡ drop p t
  behind_read = drop-drop (p - s) s t ∙ ap (λ n. drop n t) (omega arith)

  no_end_more : p < length t → (get_or t p 0 ≡ line_end → ⊥) → NoEnd (take (p - s) (drop s t)) → NoEnd (take (p + 1 - s) (drop s t))
  no_end_more l ne k =
      let next : get_or (drop s t) (p - s) 0 ≡ get_or t p 0 = get_or-drop s t (p - s) 0 ∙ ap (λ n. get_or t n 0) (omega arith) in
      let more = All-more (λ b. b ≡ line_end → ⊥) (drop s t) (p - s) 0 (omega (arith, length-drop s t)) k (λ e. ne (sym next ∙ e)) in
      subst (λ n. NoEnd (take n (drop s t))) (omega arith) more

nothing_read : (t : List ℕ) (p : ℕ) → NoEnd (take (p - p) (drop p t))
nothing_read t p = let none : p - p ≡ 0 = omega arith in rw none (All-nil (λ b. b ≡ line_end → ⊥))

module _ (t : List ℕ) where
  abbrev Whole : Line → Type 0
  Whole l = NoEnd (line_bytes t l)

  no_end_from : (s p : ℕ) (xs : List ℕ) → drop p t ≡ xs → s ≤ p → NoEnd (take (p - s) (drop s t)) → All Whole (lines_from s p xs)
  no_end_from s p [] e h k =
      cond_both (ltb s p) (line s p false ∷ []) [] (All Whole) (λ _. All-cons Whole (line s p false) [] k (All-nil Whole)) (λ _. All-nil Whole)
  no_end_from s p (x ∷ xs) e h k =
      cond_both (eqb x line_end) (line s p true ∷ lines_from (p + 1) (p + 1) xs) (lines_from s (p + 1) xs) (All Whole)
      (λ _. All-cons Whole (line s p true) _ k (no_end_from (p + 1) (p + 1) xs (rest_at t p x xs e) (omega arith) (nothing_read t (p + 1))))
      (λ f. no_end_from s (p + 1) xs (rest_at t p x xs e) (omega arith) (no_end_more t s p h (before_end t p x xs e) (λ q. eqb-false x line_end f (sym (byte_at t p x xs e) ∙ q)) k))

  rejoined_from : (s p : ℕ) (xs : List ℕ) → drop p t ≡ xs → s ≤ p → p ≤ length t → flat_map (with_end t) (lines_from s p xs) ≡ drop s t
  rejoined_from s p [] e h k =
      let all : length t ≤ p = omega (arith, length-drop p t, ap length e) in
      cond_both (ltb s p) (line s p false ∷ []) [] (λ ls. flat_map (with_end t) ls ≡ drop s t)
      (λ _. append-nil _ ∙ append-nil _ ∙ take_all (p - s) (drop s t) (omega (arith, length-drop s t)))
      (λ f. sym (drop_all s t (omega (arith, ltb-false s p f))))
  rejoined_from s p (x ∷ xs) e h k =
      cond_both (eqb x line_end) (line s p true ∷ lines_from (p + 1) (p + 1) xs) (lines_from s (p + 1) xs) (λ ls. flat_map (with_end t) ls ≡ drop s t)
      (λ f.
      let here = eqb-true x line_end f in
      let rest = rest_at t p x xs e in
      let after = rejoined_from (p + 1) (p + 1) xs rest (omega arith) (omega (arith, before_end t p x xs e)) in
      let behind = behind_read t s p h in
      let step : line_end ∷ flat_map (with_end t) (lines_from (p + 1) (p + 1) xs) ≡ drop (p - s) (drop s t) = cc in
      append_assoc (take (p - s) (drop s t)) (line_end ∷ []) _ ∙ ap (λ bs. take (p - s) (drop s t) ++ bs) step ∙ take-append-drop (p - s) (drop s t))
      (λ f. rejoined_from s (p + 1) xs (rest_at t p x xs e) (omega arith) (omega (arith, before_end t p x xs e)))

pub cut_into_lines : (xs : List ℕ) → CutIntoLines xs (lines_of xs)
cut_into_lines xs =
    record {
      rejoined = rejoined_from xs 0 0 xs refl (omega arith) (omega arith);
      no_end_inside = no_end_from xs 0 0 xs refl (omega arith) (nothing_read xs 0);
      inside = lines_inside xs;
      only_last_unended = ended_from 0 0 xs;
    }
