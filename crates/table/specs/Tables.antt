-- A table with one row read or changed. A row past the last is free, and changing it changes nothing.
--   handle_at t i       the handle row i
--   block_at t b        the block row b
--   with_handle t i h   the table with h in handle row i
--   with_block t b x    the table with x in block row b
--   new_table           a table that was never opened: every row is free
--   opened_table t n f s   the table opened with a number, the fixed part below f and the working part up to s
--   tally_of t          the live handles, the live blocks, and the bytes in blocks
--   attach t i h        the handle h in row i, and its block with one handle more
--   let_go t h          the block of the handle h with one handle less, if it has one
--   detach t i          row i freed, and its block with one handle less
--   settle t i b x h    the block x in block row b, and the handle h over it in row i
use Rattle.std.specs.Prelude.{ℕ, true, false, if◌then◌else◌, replicate, sum_by, count_by, slice_index_or, slice_set}
use Rattle.rows.specs.Rows.{block_live, block_of, blocked, handle_live, lowered, raised, size_of}
use Rattle.rows.specs.declared.block.Block.{Block}
use Rattle.rows.specs.declared.block.BlockRow.{BlockRow}
use Rattle.rows.specs.declared.block.BlockRow.TheVariants as block
use Rattle.rows.specs.declared.handle.HandleRow.{HandleRow}
use Rattle.rows.specs.declared.handle.HandleRow.TheVariants as row
use Rattle.table.specs.declared.table.Table.{Table}
use Rattle.table.specs.declared.tally.Tally.{Tally}

abbrev pub handle_at : Table → ℕ → HandleRow
handle_at t i = slice_index_or t.handles i row.Free

abbrev pub block_at : Table → ℕ → BlockRow
block_at t b = slice_index_or t.blocks b block.Free

abbrev pub with_handle : Table → ℕ → HandleRow → Table
with_handle t i h = record t { handles = slice_set t.handles i h }

abbrev pub with_block : Table → ℕ → BlockRow → Table
with_block t b x = record t { blocks = slice_set t.blocks b x }

abbrev pub new_table : Table
new_table = record { number = 0; opened = false; fixed = 0; limit = 0; handles = replicate 64 row.Free; blocks = replicate 32 block.Free }

abbrev pub opened_table : Table → ℕ → ℕ → ℕ → Table
opened_table t n f s = record t { number = n; opened = true; fixed = f; limit = s }

abbrev pub attach : Table → ℕ → HandleRow → Table
attach t i h = with_handle (with_block t (block_of h) (raised (block_at t (block_of h)))) i h

abbrev pub let_go : Table → HandleRow → Table
let_go t h = if blocked h then with_block t (block_of h) (lowered (block_at t (block_of h))) else t

abbrev pub detach : Table → ℕ → Table
detach t i = with_handle (let_go t (handle_at t i)) i row.Free

abbrev pub settle : Table → ℕ → ℕ → Block → HandleRow → Table
settle t i b x h = with_handle (with_block t b (block.Live x)) i h

abbrev pub tally_of : Table → Tally
tally_of t = record { handles = count_by handle_live t.handles; blocks = count_by block_live t.blocks; bytes = sum_by size_of t.blocks }
