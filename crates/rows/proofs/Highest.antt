-- Which row is the highest that passes a test.
use Rattle.std.proofs.Common.{◌≡◌, ℕ, suc, ◌+◌, ◌-◌, ◌<◌, ◌≤◌, Bool, true, false, List, [], ◌∷◌, ◌++◌, length, get_or, take, Some, None, Option, sym, refl, ap, ◌∙◌, subst, arith}
use Rattle.std.proofs.lemmas.List.{length-take-le, take_more}
use Rattle.rows.specs.Slots.{above, highest}

module _ {R : Type 0} (p : R → Bool) where
  pub highest_last : (rs : List R) (r : R) → p r ≡ true → highest p (rs ++ r ∷ []) ≡ Some (length rs)
  highest_last [] r h = ap (above None) h
  highest_last (x ∷ rs) r h = ap (λ o. above o (p x)) (highest_last rs r h)

  pub highest_before : (rs : List R) (r : R) → p r ≡ false → highest p (rs ++ r ∷ []) ≡ highest p rs
  highest_before [] r h = ap (above None) h
  highest_before (x ∷ rs) r h = ap (λ o. above o (p x)) (highest_before rs r h)

  -- x stands last among the first n rows
  module _ (rs : List R) (n : ℕ) (x : R) (some : 0 < n) (within : n ≤ length rs) (is : x ≡ get_or rs (n - 1) x) where
    take_last : take n rs ≡ take (n - 1) rs ++ x ∷ []
    take_last =
        let e : n - 1 + 1 ≡ n = omega arith in
        ap (λ m. take m rs) (sym e) ∙ take_more rs (n - 1) x (omega arith) ∙ ap (λ r. take (n - 1) rs ++ r ∷ []) (sym is)

    pub highest_there : true ≡ p x → Some (n - 1) ≡ highest p (take n rs)
    highest_there h = sym (ap (highest p) take_last ∙ highest_last (take (n - 1) rs) x (sym h) ∙ ap Some (length-take-le (n - 1) rs (omega arith)))

    pub highest_lower : false ≡ p x → highest p (take (n - 1) rs) ≡ highest p (take n rs)
    highest_lower h = sym (ap (highest p) take_last ∙ highest_before (take (n - 1) rs) x (sym h))

  abbrev Passes : List R → R → ℕ → Type 0
  Passes rs d k = (k < length rs) × (p (get_or rs k d) ≡ true)

  above_is : (r : R) (rs : List R) (d : R) (o : Option ℕ) (b : Bool) (k : ℕ) → ((j : ℕ) → o ≡ Some j → Passes rs d j) → p r ≡ b → above o b ≡ Some k → Passes (r ∷ rs) d k
  above_is r rs d (Some j) b k rec h e =
      let same : suc j ≡ k = cc in
      let found = rec j refl in
      subst (Passes (r ∷ rs) d) same (omega (arith, found.0), found.1)
  above_is r rs d None true k rec h e = let same : ◌≡◌ {A = ℕ} 0 k = cc in subst (Passes (r ∷ rs) d) same (omega arith, h)
  above_is r rs d None false k rec h e = let no : ◌≡◌ {A = ℕ} 0 1 = cc in absurd (omega arith)

  -- the row that is answered is there, and passes
  pub highest_is : (rs : List R) (d : R) (k : ℕ) → highest p rs ≡ Some k → (k < length rs) × (p (get_or rs k d) ≡ true)
  highest_is [] d k e = let no : ◌≡◌ {A = ℕ} 0 1 = cc in absurd (omega arith)
  highest_is (r ∷ rs) d k e = above_is r rs d (highest p rs) (p r) k (highest_is rs d) refl e
