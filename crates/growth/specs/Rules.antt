-- The growth rules.
--   doubled minimum size need   the largest of twice the size, stopping at the last 32-bit number, the need and the minimum
use Rattle.std.specs.Prelude.{ℕ, ◌*◌, min, max}

abbrev pub doubled : ℕ → ℕ → ℕ → ℕ
doubled minimum size need = max (max (min (2 * size) 4294967295) need) minimum
