-- Each memory has at most 4,294,967,295 bytes: the fact that it gives for the interface's bound.
--   first_short    over a slice
--   own_short      with bytes of its own
--   window_short   over a memory that keeps the bound
use Rattle.std.specs.Prelude.{◌≡◌, ℕ, ◌^◌, ◌<◌, List, length, drop}
use Rattle.std.proofs.Common.{length-take, length-drop, arith}
use Rattle.memory.specs.Layouts.{most, first_bytes, window_bytes}

pub first_short : (xs : List ℕ) → length (first_bytes xs) < 2 ^ 32
first_short xs = omega (arith, length-take most xs)

pub own_short : (xs : List ℕ) → length xs ≡ 4096 → length xs < 2 ^ 32
own_short xs whole = omega arith

pub window_short : (a n : ℕ) (xs : List ℕ) → length xs < 2 ^ 32 → length (window_bytes a n xs) < 2 ^ 32
window_short a n xs below = omega (arith, length-take n (drop a xs), length-drop a xs)
