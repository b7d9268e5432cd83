-- What every ledger keeps, of its table.
--   In p from n          p is one of the n positions from `from` on
--   InHandle p h        p is one of the positions that the handle h holds
--   InBlock p x         p is one of the positions of the block row x
--   Fits fixed h x       the handle h lies in its block, which the row x holds; without a block, in the fixed part
--   Apart g h            where g may write, it holds no position of h, if both are over one block
--   Placed fixed limit x the block of row x lies in the working part, and is counted
--   Sound t              the table t is sound
--   RoomAt t n p        n bytes from p on lie in the working part, and in no live block
use Rattle.std.specs.Prelude.{◌≡◌, ℕ, ◌+◌, ◌<◌, ◌≤◌, true, false, ◌≢◌, length, count_by}
use Rattle.rows.specs.Classes.{most_class}
use Rattle.rows.specs.Rows.{handle_free, block_free, writable, blocked, block_of, start_of, len_of, extent_of, lone, names, place_of, size_of, count_of, class_in}
use Rattle.table.specs.Tables.{handle_at, block_at}
use Rattle.rows.specs.declared.block.BlockRow.{BlockRow}
use Rattle.rows.specs.declared.handle.HandleRow.{HandleRow}
use Rattle.table.specs.declared.table.Table.{Table}

abbrev pub In : ℕ → ℕ → ℕ → Type 0
In p from n = (from ≤ p) × (p < from + n)

abbrev pub InHandle : ℕ → HandleRow → Type 0
InHandle p h = In p (start_of h) (extent_of h)

abbrev pub InBlock : ℕ → BlockRow → Type 0
InBlock p x = In p (place_of x) (size_of x)

pub record Fits (fixed : ℕ) (h : HandleRow) (x : BlockRow) : Type 0 where
  pub shows : len_of h ≤ extent_of h
  pub views : handle_free h ≡ false → blocked h ≡ false → start_of h + extent_of h ≤ fixed
  pub known : blocked h ≡ true → block_of h < 32
  pub from : blocked h ≡ true → place_of x ≤ start_of h
  pub to : blocked h ≡ true → start_of h + extent_of h ≤ place_of x + size_of x
  pub alone : lone h ≡ true → count_of x ≡ 1
  pub whole : lone h ≡ true → start_of h + extent_of h ≡ place_of x + size_of x

pub record Apart (g h : HandleRow) : Type 0 where
  pub no : (p : ℕ) → writable g ≡ true → blocked h ≡ true → block_of g ≡ block_of h → InHandle p g → InHandle p h → ⊥

pub record Placed (fixed limit : ℕ) (x : BlockRow) : Type 0 where
  pub low : block_free x ≡ false → fixed ≤ place_of x
  pub high : place_of x + size_of x ≤ limit
  pub counted : block_free x ≡ false → 0 < count_of x
  pub classed : class_in x ≤ most_class

pub record Sound (t : Table) : Type 0 where
  pub small : t.limit ≤ 16777216
  pub ordered : t.fixed ≤ t.limit
  pub rows : length t.handles ≡ 64
  pub blocks : length t.blocks ≡ 32
  pub shut : t.opened ≡ false → (i : ℕ) → handle_free (handle_at t i) ≡ true
  pub fits : (i : ℕ) → Fits t.fixed (handle_at t i) (block_at t (block_of (handle_at t i)))
  pub apart : (i j : ℕ) → i ≢ j → Apart (handle_at t i) (handle_at t j)
  pub one_type : (i j : ℕ) → blocked (handle_at t i) ≡ true → blocked (handle_at t j) ≡ true → block_of (handle_at t i) ≡ block_of (handle_at t j) → writable (handle_at t i) ≡ writable (handle_at t j)
  pub counts : (b : ℕ) → b < 32 → count_of (block_at t b) ≡ count_by (names b) t.handles
  pub placed : (b : ℕ) → Placed t.fixed t.limit (block_at t b)
  pub blocks_apart : (b c : ℕ) → b ≢ c → (p : ℕ) → InBlock p (block_at t b) → InBlock p (block_at t c) → ⊥

pub record RoomAt (t : Table) (n p : ℕ) : Type 0 where
  pub low : t.fixed ≤ p
  pub high : p + n ≤ t.limit
  pub free : (b q : ℕ) → In q p n → InBlock q (block_at t b) → ⊥
