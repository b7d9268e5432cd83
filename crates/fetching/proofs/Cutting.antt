-- The bytes in front of the first line end are a line, and those behind it are what follows.
use Rattle.std.proofs.Common.{◌≡◌, ℕ, suc, ◌+◌, List, ◌∷◌, ◌++◌, take, drop, Some, None, vec_items, Option, Vec, sym, ap, ◌∙◌, subst, add-one}
use lib.Seq.{split_at}
use Rattle.std.specs.declared.alloc.Global.{Global}
use Rattle.fetching.specs.Fetches.{CutOff, Fetched, NoEnd, StandsFirst}

-- the bytes v as they were read and then searched, the line that they were cut to, and what is shown behind it
module _ (v read shown line v' : List ℕ) (i : ℕ) (known : read ≡ v) (same : shown ≡ read) (front : line ≡ take i read) (rest : v' ≡ drop (i + 1) v) where
  pub cut_at_first : StandsFirst shown i → CutOff v line v'
  cut_at_first first =
      let cut : CutOff shown (take i shown) (drop (i + 1) shown) = record {
        rejoined = rw add-one (split_at shown i 0 first.inside ∙ ap (λ b. take i shown ++ b ∷ drop (suc i) shown) first.here);
        no_end = first.before;
      } in
      let at-v = subst (λ (w : List ℕ). CutOff w (take i w) (drop (i + 1) w)) (same ∙ known) cut in
      subst (λ (w : List ℕ). CutOff v w v') (sym (front ∙ ap (take i) known)) (subst (λ (w : List ℕ). CutOff v (take i v) w) (sym rest) at-v)

-- what was fetched, once it is known whether it is a line
module _ (v v' : List ℕ) {o : Option (Vec ℕ Global)} where
  pub line_fetched : (line : Vec ℕ Global) → o ≡ Some line → Fetched v o v' → CutOff v (vec_items line) v'
  line_fetched line is fetched = subst (λ (x : Option (Vec ℕ Global)). Fetched v x v') is fetched

  pub none_fetched : o ≡ None → Fetched v o v' → NoEnd v × (v' ≡ v)
  none_fetched is fetched = subst (λ (x : Option (Vec ℕ Global)). Fetched v x v') is fetched
