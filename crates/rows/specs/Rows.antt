-- What the rows tell, whatever their kind. A free row tells 0 and false.
--   handle_free, block_free   whether the row is free
--   handle_live, block_live   whether it is taken
--   writable r                whether the handle may write
--   blocked r                 whether the handle is over a block
--   block_of r                the row of its block
--   start_of r                the position of its first byte
--   len_of r                  how many bytes it shows
--   extent_of r               how many it holds: its capacity, or what it shows
--   lone r                    whether its kind has the block to itself: own, or promotable alone
--   names b r                 whether the handle is over the block of row b
--   place_of, size_of, count_of, class_in   what a block row tells
--   block_in x                the block of a row; of a free row, one of no bytes at 0
--   raised x, lowered x       a block with one handle more; with one less, and free once it has none
use Rattle.std.specs.Prelude.{ℕ, ◌+◌, ◌-◌, Bool, true, false, if◌then◌else◌, not, ◌&&◌, ◌==◌, nat_le}
use Rattle.rows.specs.declared.block.Block.{Block}
use Rattle.rows.specs.declared.block.BlockRow.{BlockRow}
use Rattle.rows.specs.declared.block.BlockRow.TheVariants as block
use Rattle.rows.specs.declared.handle.HandleRow.{HandleRow}
use Rattle.rows.specs.declared.handle.HandleRow.TheVariants as row
use Rattle.rows.specs.declared.handle.ReadOnlyKind.{ReadOnlyKind}
use Rattle.rows.specs.declared.handle.ReadOnlyKind.TheVariants.{Static, PromotableAlone, PromotableCounted, Shared}
use Rattle.rows.specs.declared.handle.WritableKind.{WritableKind}
use Rattle.rows.specs.declared.handle.WritableKind.TheVariants.{Own, Counted}

abbrev pub handle_free : HandleRow → Bool
handle_free row.Free = true
handle_free (row.Writable h) = false
handle_free (row.ReadOnly h) = false

abbrev pub block_free : BlockRow → Bool
block_free block.Free = true
block_free (block.Live b) = false

abbrev pub handle_live : HandleRow → Bool
handle_live h = not (handle_free h)

abbrev pub block_live : BlockRow → Bool
block_live x = not (block_free x)

abbrev pub writable : HandleRow → Bool
writable row.Free = false
writable (row.Writable h) = true
writable (row.ReadOnly h) = false

abbrev pub kind_blocked : ReadOnlyKind → Bool
kind_blocked Static = false
kind_blocked (PromotableAlone b) = true
kind_blocked (PromotableCounted b) = true
kind_blocked (Shared b) = true

abbrev pub blocked : HandleRow → Bool
blocked row.Free = false
blocked (row.Writable h) = true
blocked (row.ReadOnly h) = kind_blocked h.kind

abbrev pub kind_block : ReadOnlyKind → ℕ
kind_block Static = 0
kind_block (PromotableAlone b) = b
kind_block (PromotableCounted b) = b
kind_block (Shared b) = b

abbrev pub block_of : HandleRow → ℕ
block_of row.Free = 0
block_of (row.Writable h) = h.block
block_of (row.ReadOnly h) = kind_block h.kind

abbrev pub start_of : HandleRow → ℕ
start_of row.Free = 0
start_of (row.Writable h) = h.start
start_of (row.ReadOnly h) = h.start

abbrev pub len_of : HandleRow → ℕ
len_of row.Free = 0
len_of (row.Writable h) = h.len
len_of (row.ReadOnly h) = h.len

abbrev pub extent_of : HandleRow → ℕ
extent_of row.Free = 0
extent_of (row.Writable h) = h.capacity
extent_of (row.ReadOnly h) = h.len

abbrev pub kind_own : WritableKind → Bool
kind_own Own = true
kind_own Counted = false

abbrev pub kind_alone : ReadOnlyKind → Bool
kind_alone Static = false
kind_alone (PromotableAlone b) = true
kind_alone (PromotableCounted b) = false
kind_alone (Shared b) = false

abbrev pub lone : HandleRow → Bool
lone row.Free = false
lone (row.Writable h) = kind_own h.kind
lone (row.ReadOnly h) = kind_alone h.kind

abbrev pub names : ℕ → HandleRow → Bool
names b r = blocked r && block_of r == b

abbrev pub place_of : BlockRow → ℕ
place_of block.Free = 0
place_of (block.Live b) = b.place

abbrev pub size_of : BlockRow → ℕ
size_of block.Free = 0
size_of (block.Live b) = b.size

abbrev pub count_of : BlockRow → ℕ
count_of block.Free = 0
count_of (block.Live b) = b.count

abbrev pub class_in : BlockRow → ℕ
class_in block.Free = 0
class_in (block.Live b) = b.class

abbrev pub block_in : BlockRow → Block
block_in block.Free = record { place = 0; size = 0; count = 0; class = 0 }
block_in (block.Live b) = b

abbrev pub raised : BlockRow → BlockRow
raised block.Free = block.Free
raised (block.Live b) = block.Live (record b { count = b.count + 1 })

abbrev pub lowered : BlockRow → BlockRow
lowered block.Free = block.Free
lowered (block.Live b) = if nat_le b.count 1 then block.Free else block.Live (record b { count = b.count - 1 })
