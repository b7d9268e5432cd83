-- What the calls on writable handles answer behind the checks of the ledger and the tokens, and the table t and the bytes m
-- that they leave. The handle h stands in the row; faults name the row; f are the memory's faults and g is the growth rule.
--   fresh p n k             a handle of capacity n over a new block at p, of which k bytes are shown
--   make_of t k n           a new handle of capacity n that shows k bytes: its row and its place
--   with_capacity_of t n    a new handle that shows nothing
--   from_of t m f xs        a new handle that shows xs
--   reserve_of, try_reclaim_of, extend_of   room, room if the block has it, and bytes behind those shown
--   truncate_of, advance_of, read_of   bytes dropped at the end or the front, bytes read
use Rattle.std.specs.Prelude.{ℕ, ◌+◌, ◌-◌, cond, List, length, take, drop, Option, Ok, Err, Result, nat_le, nat_lt}
use Rattle.std.proofs.Math.Seq.{paste}
use Rattle.memory.specs.declared.fault.MemoryFault.{MemoryFault}
use Rattle.table.specs.Checks.{and_then, block_row_check, handle_row_check, memory_check, no_row, or_refuse, or_refuse_with, place_check, range_check}
use Rattle.rows.specs.Classes.{class_of}
use Rattle.table.specs.Tables.{settle, with_handle}
use Rattle.faults.specs.declared.Fault.{Fault}
use Rattle.rows.specs.declared.block.Block.{Block}
use Rattle.rows.specs.declared.handle.HandleRow.TheVariants.{Writable}
use Rattle.rows.specs.declared.handle.WritableHandle.{WritableHandle}
use Rattle.rows.specs.declared.handle.WritableKind.TheVariants.{Own}
use Rattle.table.specs.declared.table.Table.{Table}
use Rattle.reserve.specs.Rooms.{reclaim_of, room_of}
use Rattle.writable.specs.declared.calls.Made.{Made}
use Rattle.reserve.specs.declared.room.Room.{Room}

abbrev pub fresh : ℕ → ℕ → ℕ → ℕ → WritableHandle
fresh b p n k = record { kind = Own; block = b; start = p; len = k; capacity = n }

abbrev pub fresh_block : ℕ → ℕ → Block
fresh_block p n = record { place = p; size = n; count = 1; class = class_of n }

abbrev pub make_of : Table → ℕ → ℕ → Result Made Fault × Table
make_of t k n =
    or_refuse (handle_row_check t no_row) t (λ row.
    or_refuse (block_row_check t no_row) t (λ b.
    or_refuse (place_check t n no_row) t (λ p.
    (Ok (record { row = row; place = p }), settle t row b (fresh_block p n) (Writable (fresh b p n k))))))

abbrev pub row_made : Result Made Fault × Table → Result ℕ Fault × Table
row_made (Ok made, t) = (Ok made.row, t)
row_made (Err e, t) = (Err e, t)

abbrev pub with_capacity_of : Table → ℕ → Result ℕ Fault × Table
with_capacity_of t n = row_made (make_of t 0 n)

abbrev pub filled : Result Made Fault × Table → List ℕ → List ℕ → Result ℕ Fault × Table × List ℕ
filled (Ok made, t) m xs = (Ok made.row, t, paste m made.place xs (length xs))
filled (Err e, t) m xs = (Err e, t, m)

abbrev pub from_of : Table → List ℕ → (ℕ → MemoryFault) → List ℕ → Result ℕ Fault × Table × List ℕ
from_of t m f xs = or_refuse_with (memory_check t m f no_row) t m (λ _. filled (make_of t (length xs) (length xs)) m xs)

abbrev pub slid_of : Result Room Fault × Table × List ℕ → Result ℕ Fault × Table × List ℕ
slid_of (Ok room, t, m) = (Ok room.slid, t, m)
slid_of (Err e, t, m) = (Err e, t, m)

abbrev pub reserve_of : Table → List ℕ → (ℕ → MemoryFault) → (ℕ → ℕ → ℕ) → ℕ → WritableHandle → ℕ → Result ℕ Fault × Table × List ℕ
reserve_of t m f g row h a = or_refuse_with (memory_check t m f row) t m (λ _. slid_of (room_of t m g row h a))

abbrev pub told : Option ℕ × Table × List ℕ → Result (Option ℕ) Fault × Table × List ℕ
told r = (Ok r.0, r.1, r.2)

abbrev pub try_reclaim_of : Table → List ℕ → (ℕ → MemoryFault) → ℕ → WritableHandle → ℕ → Result (Option ℕ) Fault × Table × List ℕ
try_reclaim_of t m f row h a = or_refuse_with (memory_check t m f row) t m (λ _. told (reclaim_of t m row h a))

abbrev pub longer : WritableHandle → ℕ → WritableHandle
longer h n = record { kind = h.kind; block = h.block; start = h.start; len = h.len + n; capacity = h.capacity }

abbrev pub extended : Result Room Fault × Table × List ℕ → ℕ → List ℕ → Result ℕ Fault × Table × List ℕ
extended (Ok room, t, m) row xs = (Ok room.slid, with_handle t row (Writable (longer room.handle (length xs))), paste m (room.handle.start + room.handle.len) xs (length xs))
extended (Err e, t, m) row xs = (Err e, t, m)

abbrev pub extend_of : Table → List ℕ → (ℕ → MemoryFault) → (ℕ → ℕ → ℕ) → ℕ → WritableHandle → List ℕ → Result ℕ Fault × Table × List ℕ
extend_of t m f g row h xs = or_refuse_with (memory_check t m f row) t m (λ _. extended (room_of t m g row h (length xs)) row xs)

abbrev pub cut_to : WritableHandle → ℕ → WritableHandle
cut_to h n = record { kind = h.kind; block = h.block; start = h.start; len = n; capacity = h.capacity }

abbrev pub truncate_of : Table → ℕ → WritableHandle → ℕ → Table
truncate_of t row h n = cond (nat_lt n h.len) (with_handle t row (Writable (cut_to h n))) t

abbrev pub advanced : WritableHandle → ℕ → WritableHandle
advanced h n = record { kind = h.kind; block = h.block; start = h.start + n; len = h.len - n; capacity = h.capacity - n }

abbrev pub advance_of : Table → ℕ → WritableHandle → ℕ → Result Unit Fault × Table
advance_of t row h n = or_refuse (range_check (nat_le n h.len) row) t (λ _. (Ok tt, with_handle t row (Writable (advanced h n))))

abbrev pub buffer_after : Result Unit Fault → List ℕ → List ℕ → Result Unit Fault × List ℕ
buffer_after (Ok x) old new = (Ok x, new)
buffer_after (Err e) old new = (Err e, old)

abbrev pub read_of : Table → List ℕ → (ℕ → MemoryFault) → ℕ → ℕ → ℕ → ℕ → List ℕ → Result Unit Fault × List ℕ
read_of t m f row start len at out =
    buffer_after (and_then (memory_check t m f row) (λ _. range_check (nat_le (at + length out) len) row)) out (take (length out) (drop (start + at) m))
