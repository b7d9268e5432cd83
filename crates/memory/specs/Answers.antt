-- What a memory answers, over its byte list and the fault of each position outside it.
--   read_answer xs fault p   the byte at p, or the fault of p where the list does not reach it
--   put_answer xs fault p    done, or the same fault
--   handed_up r              an answer from below as a layer hands it up
use Rattle.std.specs.Prelude.{ℕ, if◌then◌else◌, List, length, Ok, Err, Result, nat_lt, slice_index}
use Rattle.memory.specs.Faults.{raised}
use Rattle.memory.specs.declared.fault.MemoryFault.{MemoryFault}

abbrev pub read_answer : List ℕ → (ℕ → MemoryFault) → ℕ → Result ℕ MemoryFault
read_answer xs fault p = if nat_lt p (length xs) then Ok (slice_index xs p) else Err (fault p)

abbrev pub put_answer : List ℕ → (ℕ → MemoryFault) → ℕ → Result (Unit {0}) MemoryFault
put_answer xs fault p = if nat_lt p (length xs) then Ok tt else Err (fault p)

abbrev pub handed_up : {A : Type 0} → Result A MemoryFault → Result A MemoryFault
handed_up (Ok x) = Ok x
handed_up (Err f) = Err (raised f)
