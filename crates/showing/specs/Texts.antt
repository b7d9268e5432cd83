-- How amounts and texts are printed.
--   two_digits n  a number below 100 in two digits
--   decimals z    z cents with two decimals: a minus if they are below zero, the whole units, a point and the two digits of the rest
--   amount z      the same behind spaces, where it has fewer than twelve characters
--   escaped b     a byte between quotation marks: a quotation mark or a backslash behind a backslash, any other printing ASCII
--                 as it is, and the rest as \x and two hexadecimal digits
--   quoted bytes  the bytes between quotation marks
use Rattle.std.specs.Prelude.{ℕ, ℤ, pos, ◌+◌, ◌-◌, ◌/◌, ◌%◌, ◌||◌, ◌&&◌, ◌++◌, List, [], ◌∷◌, false, if◌then◌else◌, nat_le, ◌==◌, codes, decimal, int_lt, length, replicate, unsigned_abs}
use Rattle.std.specs.Fmt.{digit_glyph}
use Rattle.std.specs.List.{flat_map}

abbrev pub two_digits : ℕ → List ℕ
two_digits n = (48 + n / 10) ∷ (48 + n % 10) ∷ []

abbrev pub decimals : ℤ → List ℕ
decimals z = (if int_lt z (pos 0) then codes "-" else []) ++ (decimal (unsigned_abs z / 100) ++ (codes "." ++ two_digits (unsigned_abs z % 100)))

-- a space is the byte 32
abbrev pub amount : ℤ → List ℕ
amount z = replicate (12 - length (decimals z)) 32 ++ decimals z

-- the quotation mark, the backslash, and from the space to the tilde
abbrev pub escaped : ℕ → List ℕ
escaped b =
    if b == 34 || b == 92 then 92 ∷ b ∷ []
    else (if nat_le 32 b && nat_le b 126 then b ∷ []
    else codes "\\x" ++ digit_glyph false (b / 16) ∷ digit_glyph false (b % 16) ∷ [])

abbrev pub quoted : List ℕ → List ℕ
quoted bytes = codes "\"" ++ (flat_map escaped bytes ++ codes "\"")
