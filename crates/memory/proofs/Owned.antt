-- A memory with bytes of its own has no more bytes than a memory may have.
use Rattle.std.proofs.Common.{◌≡◌, ℕ, List, length, arith, take_all}
use Rattle.memory.specs.Layouts.{first_bytes, most}

pub all_of_own : (xs : List ℕ) → length xs ≡ 4096 → first_bytes xs ≡ xs
all_of_own xs whole = take_all most xs (omega arith)
