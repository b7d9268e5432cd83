-- What every turn of a run keeps.
--   shown_by m h         what a handle row shows of the memory: no list for a free row
--   Kept ..              of the memory as found, the table, the bytes, the book, the slides and the distances so far, and
--                        a mark for each block row: no handle of the block starts further than that behind its place
use Rattle.std.proofs.Common.{◌≡◌, ℕ, ◌+◌, ◌≤◌, true, false, List, length, get_or, take, Some, None, sum, Option}
use Rattle.rows.specs.Rows.{blocked, block_of, len_of, place_of, start_of}
use Rattle.table.specs.Soundness.{Sound}
use Rattle.table.specs.Tables.{block_at, handle_at}
use Rattle.rows.specs.declared.handle.HandleRow.{HandleRow}
use Rattle.rows.specs.declared.handle.HandleRow.TheVariants as row
use Rattle.table.specs.declared.table.Table.{Table}
use Rattle.law.specs.Book.{Book, listed}
use Rattle.law.specs.Law.{part}

abbrev pub shown_by : List ℕ → HandleRow → Option (List ℕ)
shown_by m row.Free = None
shown_by m (row.Writable h) = Some (part m h.start h.len)
shown_by m (row.ReadOnly h) = Some (part m h.start h.len)

pub record Kept (found : List ℕ) (t : Table) (m : List ℕ) (k : Book) (marks : List ℕ) (slid distances : ℕ) : Type 0 where
  pub sound : Sound t
  pub book_rows : length k ≡ 64
  pub agrees : (i : ℕ) → listed k i ≡ shown_by m (handle_at t i)
  pub whole : (i : ℕ) → length (part m (start_of (handle_at t i)) (len_of (handle_at t i))) ≡ len_of (handle_at t i)
  pub mark_rows : length marks ≡ 32
  pub marked : (i : ℕ) → blocked (handle_at t i) ≡ true → start_of (handle_at t i) ≤ place_of (block_at t (block_of (handle_at t i))) + get_or marks (block_of (handle_at t i)) 0
  pub paid : sum marks + slid ≤ distances
  pub untouched : t.opened ≡ false → m ≡ found
  pub fixed_part : take t.fixed m ≡ take t.fixed found
  pub long : length m ≡ length found
