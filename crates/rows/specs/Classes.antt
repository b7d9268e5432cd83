-- The class of a block's size, and the capacity that a class restores.
--   most_class    the largest class
--   class_of n    how many binary digits n has in units of 1,024, at most 7; zero has none
--   restored r    nothing for class 0, else 2 ^ (r + 9)
use Rattle.std.specs.Prelude.{ℕ, ◌+◌, ◌/◌, ◌^◌, min, if◌then◌else◌, length, ◌==◌}
use Rattle.std.specs.Int.Digits.{digits_of}

abbrev pub most_class : ℕ
most_class = 7

abbrev pub class_of : ℕ → ℕ
class_of n = min (length (digits_of 2 (n / 1024))) most_class

abbrev pub restored : ℕ → ℕ
restored r = if r == 0 then 0 else 2 ^ (min r most_class + 9)
