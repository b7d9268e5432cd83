-- What a write into a list of bytes leaves, and what it brings.
use Rattle.std.proofs.Common.{◌≡◌, ℕ, ◌+◌, ◌<◌, ◌≤◌, List, ◌++◌, length, get_or, take, drop, sym, ap, ◌∙◌, inl, inr, arith, rules}
use lib.Seq.{paste}
use Rattle.std.proofs.lemmas.List.Edits.{length-paste, take-paste}
use Rattle.std.proofs.lemmas.List.{drop-append-le, drop-take, ext_get_or, get_or-drop, get_or-take, length-append, length-drop, length-take, places, take-append-le, take-take}
use Rattle.std.proofs.lemmas.Bool.{cases_lt}
use Rattle.table.specs.Soundness.{In}
use Rattle.law.specs.Law.{part}

pub length_part : (m : List ℕ) (s k : ℕ) → s + k ≤ length m → length (part m s k) ≡ k
length_part m s k inside = simp (length-take, length-drop) (omega arith)

-- lists of one length with the same bytes at the positions of a part have the same part
pub same_part : (m n : List ℕ) (s k : ℕ) → length n ≡ length m → ((p : ℕ) → In p s k → get_or n p 0 ≡ get_or m p 0) → part n s k ≡ part m s k
same_part m n s k long same =
    ext_get_or 0 (part n s k) (part m s k)
    (simp (length-take, length-drop) (omega arith))
    (λ i l.
    let lt : i < k = omega (arith, l, length-take k (drop s n)) in
    get_or-take k (drop s n) i 0 lt ∙ get_or-drop s n i 0 ∙ same (s + i) (omega arith, omega arith) ∙ sym (get_or-drop s m i 0) ∙ sym (get_or-take k (drop s m) i 0 lt))

-- n bytes of xs written into m from `at` on
module _ (m : List ℕ) (at : ℕ) (xs : List ℕ) (n : ℕ) (inside : at + n ≤ length m) (enough : n ≤ length xs) where
  pub byte_unwritten : (p : ℕ) → (In p at n → ⊥) → get_or (paste m at xs n) p 0 ≡ get_or m p 0
  byte_unwritten p off =
      elim (cases_lt p at) [
        | inl before ↦ search (rules, places)
        | inr from ↦ elim (cases_lt p (at + n)) [
          | inl to ↦ absurd (off (from, to))
          | inr behind ↦ search (rules, places)
        ]
      ]

  -- a part without a position that was written
  pub part_unwritten : (s k : ℕ) → ((p : ℕ) → In p s k → In p at n → ⊥) → part (paste m at xs n) s k ≡ part m s k
  part_unwritten s k apart = same_part m (paste m at xs n) s k (length-paste m at xs n inside enough) (λ p x. byte_unwritten p (apart p x))

  -- what stands before the write
  pub front_unwritten : (f : ℕ) → f ≤ at → take f (paste m at xs n) ≡ take f m
  front_unwritten f before =
      let front : length (take at m) ≡ at = simp length-take (omega arith) in
      let both = length-append (take at m) (take n xs) in
      take-append-le f (take at m ++ take n xs) (drop (at + n) m) (omega arith)
      ∙ take-append-le f (take at m) (take n xs) (omega arith)
      ∙ take-take f at m before

  -- what was written, with the part before it
  pub part_behind : (s k : ℕ) → at ≡ s + k → part (paste m at xs n) s (k + n) ≡ part m s k ++ take n xs
  part_behind s k here =
      let front : length (take at m) ≡ at = simp length-take (omega arith) in
      let sum : s + (k + n) ≡ at + n = omega arith in
      sym (drop-take s (k + n) (paste m at xs n))
      ∙ ap (λ e. drop s (take e (paste m at xs n))) sum
      ∙ ap (drop s) (take-paste m at xs n (omega arith) enough)
      ∙ drop-append-le s (take at m) (take n xs) (omega arith)
      ∙ ap (λ e. drop s (take e m) ++ take n xs) here
      ∙ ap (λ x. x ++ take n xs) (drop-take s k m)

  -- what was written
  pub part_written : part (paste m at xs n) at n ≡ take n xs
  part_written = ap (part (paste m at xs n) at) (omega arith) ∙ part_behind at 0 (omega arith)
