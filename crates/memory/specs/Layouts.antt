-- The byte list and the faults of each memory, over what it is made of.
--   most                      the most bytes that a memory has, and the last 32-bit position
--   first_bytes xs            a slice's bytes, as many as a memory may have
--   window_bytes a n xs       the bytes xs of the memory below, from a on, at most n
--   window_fault a n xs f p   the window's own fault from n on; under n that of the memory below, raised
--   lowered_answer a n xs p   the position below that the window's p becomes, or the window's own fault
--   put_below a n xs p b      the memory below after b was put at the window's position p
use Rattle.std.specs.Prelude.{ℕ, ◌+◌, min, if◌then◌else◌, List, length, take, drop, Ok, Err, Result, nat_lt, slice_set}
use Rattle.memory.specs.Faults.{own_fault, raised}
use Rattle.memory.specs.declared.fault.MemoryFault.{MemoryFault}

abbrev pub most : ℕ
most = 4294967295

abbrev pub first_bytes : List ℕ → List ℕ
first_bytes xs = take most xs

abbrev pub window_bytes : ℕ → ℕ → List ℕ → List ℕ
window_bytes a n xs = take n (drop a xs)

abbrev pub window_fault : ℕ → ℕ → List ℕ → (ℕ → MemoryFault) → ℕ → MemoryFault
window_fault a n xs f p = if nat_lt p n then raised (f (min (a + p) most)) else own_fault (length (window_bytes a n xs)) p

abbrev pub put_below : ℕ → ℕ → List ℕ → ℕ → ℕ → List ℕ
put_below a n xs p b = if nat_lt p n then slice_set xs (min (a + p) most) b else xs

abbrev pub lowered_answer : ℕ → ℕ → List ℕ → ℕ → Result ℕ MemoryFault
lowered_answer a n xs p = if nat_lt p n then Ok (min (a + p) most) else Err (own_fault (length (window_bytes a n xs)) p)
