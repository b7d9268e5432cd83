-- A memory's answer, from the side of its size that the position is on.
use Rattle.std.proofs.Common.{◌≡◌, ℕ, ◌<◌, ◌≤◌, List, length, get_or, Ok, Err, Result, ap, ◌∙◌}
use Rattle.std.specs.Result.{MatchResult, IsErrAnd}
use Rattle.std.proofs.lemmas.Result.{err_from_is_err_and}
use Rattle.std.proofs.lemmas.Bool.{lt-ltb, le-ltb}
use Rattle.memory.specs.Answers.{read_answer, put_answer, handed_up}
use Rattle.memory.specs.Faults.{raised}
use Rattle.memory.specs.declared.fault.MemoryFault.{MemoryFault}

module _ (xs : List ℕ) (f : ℕ → MemoryFault) (p : ℕ) where
  pub read_within : (v : ℕ) → p < length xs → v ≡ get_or xs p 0 → Ok v ≡ read_answer xs f p
  read_within v h e = rw (lt-ltb p (length xs) h) (ap Ok e)

  pub read_past : (e : MemoryFault) → length xs ≤ p → e ≡ f p → Err e ≡ read_answer xs f p
  read_past e h q = rw (le-ltb p (length xs) h) (ap Err q)

  pub put_within : p < length xs → Ok tt ≡ put_answer xs f p
  put_within h = rw (lt-ltb p (length xs) h)

  pub put_past : (e : MemoryFault) → length xs ≤ p → e ≡ f p → Err e ≡ put_answer xs f p
  put_past e h q = rw (le-ltb p (length xs) h) (ap Err q)

-- an answer from below in which the fault was raised is the answer as the layer hands it up
pub handed_up_is : {A : Type 0} (r s : Result A MemoryFault) → MatchResult r (λ x. s ≡ Ok x) (λ e. IsErrAnd s (λ f. f ≡ raised e)) → s ≡ handed_up r
handed_up_is (Ok x) s h = h
handed_up_is (Err e) s h = let r = err_from_is_err_and s h in r.1 ∙ ap Err r.2
