-- What joining two writable handles answers behind the checks of the ledger and the tokens, and the table and the bytes that
-- it leaves. The handle h stands in the row i of the table t, and the other, g, in the row j; f are the memory's faults and
-- r is the growth rule.
--   joint_of h g              how the other lies to the first: it holds nothing, it follows the bytes shown, or neither
--   merged h g                the first handle with what the other holds
--   try_unsplit_of t i h j g  whether the other was joined
--   taken_over t i j g        the other handle in the row of the first, which ended
--   appended o i j g          the other's bytes written behind the first's, for which there is room, and the other ended
--   unsplit_of ..             the bytes slid
use Rattle.std.specs.Prelude.{ℕ, ◌+◌, Bool, true, false, cond, not, ◌&&◌, List, Ok, Err, Result, ◌==◌}
use Rattle.faults.specs.declared.Fault.{Fault}
use Rattle.memory.specs.declared.fault.MemoryFault.{MemoryFault}
use Rattle.reserve.specs.Rooms.{copied, room_of}
use Rattle.reserve.specs.declared.room.Room.{Room}
use Rattle.rows.specs.Rows.{kind_own}
use Rattle.rows.specs.declared.handle.HandleRow.TheVariants.{Free, Writable}
use Rattle.rows.specs.declared.handle.WritableHandle.{WritableHandle}
use Rattle.table.specs.Checks.{memory_check, or_refuse_with}
use Rattle.table.specs.Tables.{detach, with_handle}
use Rattle.table.specs.declared.table.Table.{Table}
use Rattle.writable.specs.Calls.{longer}
use Rattle.splitting.specs.declared.unsplit.Joint.{Joint}
use Rattle.splitting.specs.declared.unsplit.Joint.TheVariants.{Nothing, Adjacent, Apart}

abbrev pub counted : WritableHandle → Bool
counted h = not (kind_own h.kind)

abbrev pub follows : WritableHandle → WritableHandle → Bool
follows h g = counted h && (counted g && (h.block == g.block && h.start + h.len == g.start))

abbrev pub joint_of : WritableHandle → WritableHandle → Joint
joint_of h g = cond (g.capacity == 0) Nothing (cond (follows h g) Adjacent Apart)

abbrev pub merged : WritableHandle → WritableHandle → WritableHandle
merged h g = record { kind = h.kind; block = h.block; start = h.start; len = h.len + g.len; capacity = h.capacity + g.capacity }

abbrev pub try_unsplit_by : Joint → Table → ℕ → WritableHandle → ℕ → WritableHandle → Bool × Table
try_unsplit_by Nothing t i h j g = (true, detach t j)
try_unsplit_by Adjacent t i h j g = (true, with_handle (detach t j) i (Writable (merged h g)))
try_unsplit_by Apart t i h j g = (false, t)

abbrev pub try_unsplit_of : Table → ℕ → WritableHandle → ℕ → WritableHandle → Bool × Table
try_unsplit_of t i h j g = try_unsplit_by (joint_of h g) t i h j g

abbrev pub taken_over : Table → ℕ → ℕ → WritableHandle → Table
taken_over t i j g = with_handle (with_handle (detach t i) j Free) i (Writable g)

abbrev pub appended : Result Room Fault × Table × List ℕ → ℕ → ℕ → WritableHandle → Result ℕ Fault × Table × List ℕ
appended (Ok room, t, m) i j g = (Ok room.slid, detach (with_handle t i (Writable (longer room.handle g.len))) j, copied m g (room.handle.start + room.handle.len))
appended (Err e, t, m) i j g = (Err e, t, m)

-- the other joined to a first handle that shows bytes
abbrev pub joined_by : Joint → Table → List ℕ → (ℕ → ℕ → ℕ) → ℕ → WritableHandle → ℕ → WritableHandle → Result ℕ Fault × Table × List ℕ
joined_by Nothing t m r i h j g = (Ok 0, (try_unsplit_by Nothing t i h j g).1, m)
joined_by Adjacent t m r i h j g = (Ok 0, (try_unsplit_by Adjacent t i h j g).1, m)
joined_by Apart t m r i h j g = appended (room_of t m r i h g.len) i j g

abbrev pub unsplit_of : Table → List ℕ → (ℕ → MemoryFault) → (ℕ → ℕ → ℕ) → ℕ → WritableHandle → ℕ → WritableHandle → Result ℕ Fault × Table × List ℕ
unsplit_of t m f r i h j g =
    or_refuse_with (memory_check t m f i) t m (λ _.
    cond (h.len == 0) (Ok 0, taken_over t i j g, m) (joined_by (joint_of h g) t m r i h j g))
