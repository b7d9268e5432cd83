-- Lines fetched out of what a handle shows.
--   NoEnd bs            none of the bytes bs is a line end
--   StandsFirst bs i    the first line end of the bytes bs stands at the index i
--   CutOff v line v'    v begins with the line and its end, and v' is what follows
--   Fetched v o v'       what is shown goes from v to v' as o is fetched: a line that is cut off, or none where there is no end
use Rattle.std.specs.Prelude.{◌≡◌, All, ℕ, ◌<◌, List, ◌∷◌, ◌++◌, length, take, Some, None, vec_items, Option, Vec, ◌≢◌, slice_index_or}
use Rattle.std.specs.declared.alloc.Global.{Global}
use Rattle.lines.specs.Lines.{line_end}

abbrev pub NoEnd : List ℕ → Type 0
NoEnd bs = All (λ b. b ≢ line_end) bs

pub record StandsFirst (bs : List ℕ) (i : ℕ) : Type 0 where
  pub inside : i < length bs
  pub here : slice_index_or bs i 0 ≡ line_end
  pub before : NoEnd (take i bs)

pub record CutOff (v line v' : List ℕ) : Type 0 where
  pub rejoined : v ≡ line ++ (line_end ∷ v')
  pub no_end : NoEnd line

abbrev pub Fetched : List ℕ → Option (Vec ℕ Global) → List ℕ → Type 0
Fetched v (Some line) v' = CutOff v (vec_items line) v'
Fetched v None v' = NoEnd v × (v' ≡ v)
