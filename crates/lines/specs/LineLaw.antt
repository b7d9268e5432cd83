-- The law of cutting a text into lines.
--   CutIntoLines xs ls   the lines ls are the text xs, cut behind each of its line ends
--     rejoined             the lines with their ends, one after another, are the text
--     no_end_inside        no line has a line end inside
--     inside               each line lies within the text
--     only_last_unended    each line but the last has an end
use Rattle.std.specs.Prelude.{◌≡◌, ℕ, ◌+◌, ◌<◌, ◌≤◌, true, All, List, length, ◌≢◌, slice_index_or}
use Rattle.std.specs.List.{flat_map}
use Rattle.lines.specs.Lines.{line_end, line_bytes, with_end}
use Rattle.lines.specs.declared.line.Line.{Line}

pub record CutIntoLines (xs : List ℕ) (ls : List Line) : Type 0 where
  pub rejoined : flat_map (with_end xs) ls ≡ xs
  pub no_end_inside : All (λ l. All (λ b. b ≢ line_end) (line_bytes xs l)) ls
  pub inside : All (λ l. l.span.start + l.span.length ≤ length xs) ls
  pub only_last_unended : (k : ℕ) (d : Line) → k + 1 < length ls → (slice_index_or ls k d).ended ≡ true
