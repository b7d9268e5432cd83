-- No rule answers below the need, nor more than 32 bits to numbers of 32 bits.
use Rattle.std.specs.Prelude.{ℕ, ◌^◌, ◌<◌, ◌≤◌}
use Rattle.std.proofs.Common.{arith}
use Rattle.growth.specs.Rules.{doubled}

pub doubled_enough : (minimum size need : ℕ) → need ≤ doubled minimum size need
doubled_enough minimum size need = omega arith

pub doubled_fits : (minimum : ℕ) → minimum < 2 ^ 32 → (size need : ℕ) → need < 2 ^ 32 → doubled minimum size need < 2 ^ 32
doubled_fits minimum small size need fits = omega arith

pub need_enough : (need : ℕ) → need ≤ need
need_enough need = omega arith
