-- Spans of a text that stands in a memory.
--   span_bytes xs s    the bytes of the text xs at the positions of the span s
use Rattle.std.specs.Prelude.{ℕ, List, take, drop}
use Rattle.lines.specs.declared.span.Span.{Span}

abbrev pub span_bytes : List ℕ → Span → List ℕ
span_bytes xs s = take s.length (drop s.start xs)
