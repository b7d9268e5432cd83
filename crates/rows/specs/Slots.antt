-- The row of highest number that is free.
--   above o b       what stands before a list whose first passes the test or not, where o was found behind it
--   highest p rs    the number of the last of the rows rs that passes the test p
use Rattle.std.specs.Prelude.{ℕ, suc, Bool, true, false, List, [], ◌∷◌, Some, None, Option}

abbrev pub above : Option ℕ → Bool → Option ℕ
above (Some i) b = Some (suc i)
above None true = Some 0
above None false = None

abbrev pub highest : {R : Type 0} → (R → Bool) → List R → Option ℕ
highest p [] = None
highest p (r ∷ rs) = above (highest p rs) (p r)
