-- A writable handle that is changed, or put over another block, leaves a sound table.
use Rattle.std.proofs.Common.{◌≡◌, ℕ, ◌+◌, ◌<◌, ◌≤◌, true, leb, length, sym, refl, ap, ◌∙◌, subst, arith}
use Rattle.std.proofs.lemmas.List.{get_or-set_same, length-set}
use Rattle.std.proofs.lemmas.Bool.{cond_both, false≢true, true≢false}
use Rattle.table.proofs.Sets.{at_set}
use Rattle.table.proofs.SoundSteps.{block_under, live_opened, live_row, sound_detach, sound_grown_in_place, sound_regrow, sound_reshape, sound_settle}
use Rattle.rows.specs.Rows.{block_free, block_in, block_of, blocked, class_in, count_of, extent_of, handle_free, kind_own, lone, lowered, place_of, size_of, start_of, writable}
use Rattle.table.specs.Soundness.{Fits, In, InBlock, RoomAt, Sound}
use Rattle.table.specs.Tables.{block_at, detach, handle_at, let_go, settle, with_block, with_handle}
use Rattle.reserve.proofs.HandleFacts.{Handled, handled}
use Rattle.rows.specs.declared.block.Block.{Block}
use Rattle.rows.specs.declared.block.BlockRow.{BlockRow}
use Rattle.rows.specs.declared.block.BlockRow.TheVariants as block
use Rattle.rows.specs.declared.handle.HandleRow.{HandleRow}
use Rattle.rows.specs.declared.handle.HandleRow.TheVariants as row
use Rattle.rows.specs.declared.handle.WritableHandle.{WritableHandle}
use Rattle.table.specs.declared.table.Table.{Table}

-- A handle and its block.

-- the block that a handle names
abbrev pub its_block : Table → WritableHandle → Block
its_block t h = block_in (block_at t h.block)

-- a handle that may be put over the block x: it alone, and up to the block's end
pub record Owns (h : WritableHandle) (x : Block) : Type 0 where
  pub shows : h.len ≤ h.capacity
  pub from : x.place ≤ h.start
  pub to : h.start + h.capacity ≡ x.place + x.size
  pub single : x.count ≡ 1
  pub classed : x.class ≤ 7

pub owns_fits : (fixed : ℕ) (h : WritableHandle) (x : Block) → h.block < 32 → Owns h x → Fits fixed (row.Writable h) (block.Live x)
owns_fits fixed h x known o =
    record { shows = o.shows; views = (λ _ z. absurd (true≢false z)); known = (λ _. known); from = (λ _. o.from); to = (λ _. omega arith); alone = (λ _. o.single); whole = (λ _. o.to) }

block_in_is : (x : BlockRow) → ((block_in x).place ≡ place_of x) × ((block_in x).size ≡ size_of x) × ((block_in x).count ≡ count_of x) × ((block_in x).class ≡ class_in x)
block_in_is block.Free = (refl, refl, refl, refl)
block_in_is (block.Live b) = (refl, refl, refl, refl)

-- a handle that was put in a row stands there
pub put_stands : (t : Table) (i : ℕ) (r : HandleRow) → i < 64 → Sound (with_handle t i r) → handle_at (with_handle t i r) i ≡ r
put_stands t i r known s = get_or-set_same t.handles i r row.Free (omega (arith, length-set t.handles i r, s.rows))

-- One handle less on a block.

lowered_free : (x : BlockRow) → block_free x ≡ true → block_free (lowered x) ≡ true
lowered_free block.Free e = refl
lowered_free (block.Live b) e = absurd (false≢true e)

lowered_in : (x : BlockRow) (p : ℕ) → InBlock p (lowered x) → InBlock p x
lowered_in block.Free p = λ z. z
lowered_in (block.Live b) p = cond_both (leb b.count 1) block.Free _ (λ y. InBlock p y → InBlock p (block.Live b)) (λ _ z. absurd (omega arith)) (λ _ z. z)

-- handle row i freed, and one handle less on the block of row c
abbrev freed : Table → ℕ → ℕ → Table
freed t i c = with_handle (with_block t c (lowered (block_at t c))) i row.Free

module _ (t : Table) (i c : ℕ) (known : c < length t.blocks) where
  -- what holds of each block row, and of that one with one handle less, holds of each row after
  freed_each : (P : ℕ → BlockRow → Type 0) → P c (lowered (block_at t c)) → ((b : ℕ) → P b (block_at t b)) → (b : ℕ) → P b (block_at (freed t i c) b)
  freed_each P new old = at_set t.blocks c (lowered (block_at t c)) block.Free P known new (λ b _. old b)

  freed_vacant : (b : ℕ) → block_free (block_at t b) ≡ true → block_free (block_at (freed t i c) b) ≡ true
  freed_vacant b free =
      let same = λ (d : ℕ) (e : d ≡ b). ap (λ k. block_free (block_at t k)) e ∙ free in
      freed_each (λ d x. d ≡ b → block_free x ≡ true) (λ e. lowered_free (block_at t c) (same c e)) same b refl

  freed_room : (n p : ℕ) → RoomAt t n p → RoomAt (freed t i c) n p
  freed_room n p room =
      record { low = room.low; high = room.high; free = freed_each (λ _ x. (q : ℕ) → In q p n → InBlock q x → ⊥) (λ q here there. room.free c q here (lowered_in (block_at t c) q there)) room.free }

-- The handle h, in row i, changed.

module _ (t : Table) (i : ℕ) (h : WritableHandle) (s : Sound t) (is : handle_at t i ≡ row.Writable h) where
  under : block_under t i ≡ block_at t h.block
  under = ap (λ r. block_at t (block_of r)) is

  pub row_known : i < 64
  row_known = live_row s i (ap handle_free is)

  pub over : Handled t h (its_block t h)
  over = handled t i h is s (its_block t h) refl

  module _ (start len capacity : ℕ) (shows : len ≤ capacity) where
    -- another length, and less of the front
    pub sound_cut : h.start ≤ start → start + capacity ≡ h.start + h.capacity → Sound (with_handle t i (row.Writable (record { kind = h.kind; block = h.block; start = start; len = len; capacity = capacity })))
    sound_cut from to =
        let was-start = ap start_of is in
        let was-extent = ap extent_of is in
        sound_reshape t i _ s (ap handle_free is)
        (record { over = sym (ap blocked is); on = sym (ap block_of is); writes = sym (ap writable is); from = omega arith; to = omega arith })
        (λ q. ap lone is ∙ q)
        (λ _. omega arith)
        shows

    -- another part of a block that the handle has to itself
    pub sound_shifted : (its_block t h).count ≡ 1 → (its_block t h).place ≤ start → start + capacity ≤ (its_block t h).place + (its_block t h).size → (kind_own h.kind ≡ true → start + capacity ≡ (its_block t h).place + (its_block t h).size) → Sound (with_handle t i (row.Writable (record { kind = h.kind; block = h.block; start = start; len = len; capacity = capacity })))
    sound_shifted single from to whole =
        let same = block_in_is (block_at t h.block) in
        let place = ap place_of under in
        let size = ap size_of under in
        sound_grown_in_place t i _ s (ap blocked is) refl (sym (ap block_of is))
        (omega (arith, ap count_of under))
        (omega arith)
        (omega arith)
        (λ q. omega (arith, whole q))
        shows

  module _ (x : Block) (k : WritableHandle) (o : Owns k x) (room : RoomAt t x.size x.place) where
    -- a new block, in the row of one that the handle has to itself
    pub sound_grown : (its_block t h).count ≡ 1 → k.block ≡ h.block → Sound (settle t i h.block x (row.Writable k))
    sound_grown single on =
        sound_regrow t i h.block x (row.Writable k) s (ap blocked is) (ap block_of is) (omega (arith, block_in_is (block_at t h.block))) o.single o.classed room refl on
        (owns_fits t.fixed k x (omega (arith, over.known)) o)

    -- a new block, in a free row
    pub sound_moved : k.block < 32 → block_free (block_at t k.block) ≡ true → Sound (settle (detach t i) i k.block x (row.Writable k))
    sound_moved known free =
        let c = h.block in
        let c-known : c < length t.blocks = omega (arith, over.known, s.blocks) in
        let left : detach t i ≡ freed t i c = ap (λ r. with_handle (let_go t r) i row.Free) is in
        let sound-freed = subst Sound left (sound_detach t i s (ap handle_free is)) in
        subst (λ u. Sound (settle u i k.block x (row.Writable k))) (sym left)
        (sound_settle (freed t i c) i k.block x (row.Writable k) sound-freed (live_opened s i (ap handle_free is)) row_known
        (ap blocked (put_stands (with_block t c (lowered (block_at t c))) i row.Free row_known sound-freed))
        (freed_vacant t i c c-known k.block free) o.single o.classed (freed_room t i c c-known x.size x.place room) refl refl
        (owns_fits t.fixed k x known o))
