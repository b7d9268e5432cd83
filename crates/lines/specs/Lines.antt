-- The lines of a text. A line ends with byte 10; bytes behind the last end are a line without one.
--   line_end              the byte that ends a line
--   line_bytes xs l       the bytes of the line l of the text xs, without its end
--   with_end xs l         the same with its end, where it has one
--   line s p ended        the line from position s to p
--   lines_from s p xs     the lines of a text read up to position p, its last line begun at s, when xs is left
--   lines_of xs           the lines of the text xs
use Rattle.std.specs.Prelude.{ℕ, ◌+◌, ◌-◌, Bool, true, false, if◌then◌else◌, List, [], ◌∷◌, ◌++◌, ◌==◌, nat_lt}
use Rattle.lines.specs.Spans.{span_bytes}
use Rattle.lines.specs.declared.line.Line.{Line}

abbrev pub line_end : ℕ
line_end = 10

abbrev pub line_bytes : List ℕ → Line → List ℕ
line_bytes xs l = span_bytes xs l.span

abbrev pub with_end : List ℕ → Line → List ℕ
with_end xs l = line_bytes xs l ++ (if l.ended then line_end ∷ [] else [])

abbrev pub line : ℕ → ℕ → Bool → Line
line s p ended = record { span = record { start = s; length = p - s }; ended = ended }

abbrev pub lines_from : ℕ → ℕ → List ℕ → List Line
lines_from s p [] = if nat_lt s p then line s p false ∷ [] else []
lines_from s p (x ∷ xs) = if x == line_end then line s p true ∷ lines_from (p + 1) (p + 1) xs else lines_from s (p + 1) xs

abbrev pub lines_of : List ℕ → List Line
lines_of xs = lines_from 0 0 xs
