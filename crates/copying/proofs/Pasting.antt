-- A byte that a loop which writes a list into another has not reached.
use Rattle.std.proofs.Common.{◌≡◌, ℕ, ◌+◌, ◌<◌, ◌≤◌, ◌⊎◌, List, length, get_or, ⊎_elim, rules}
use lib.Seq.{paste}
use Rattle.std.proofs.lemmas.List.{places}

pub get_or_unwritten : (xs : List ℕ) (at : ℕ) (ys : List ℕ) (i k : ℕ) → at + i ≤ length xs → i ≤ length ys → (k < at) ⊎ (at + i ≤ k) → get_or (paste xs at ys i) k 0 ≡ get_or xs k 0
get_or_unwritten xs at ys i k fits enough away =
    ⊎_elim (λ (before : k < at). search (rules, places)) (λ (behind : at + i ≤ k). search (rules, places)) away
