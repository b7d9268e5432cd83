-- The checks of the calls. Each answers what the call goes on with, or its refusal with the row that the fault names.
--   no_row                   the row that a fault names where there is no token
--   and_then r rest          the rest of the checks where the check r passes; else its refusal
--   or_refuse r t rest       the rest of a call where the check r passes; else its refusal, with the table t as it was
--   or_refuse_with r t m rest   the same for a call that takes the memory, with its bytes m as they were
--   open_check t row         the ledger is open
--   memory_check t m f row   the memory m, with the faults f, reaches as far as the ledger does
--   range_check ok row       an argument is in its range
--   handle_row_check t row   the free handle row of highest number
--   block_row_check t row    the free block row of highest number
--   place_check t n row      the lowest place for a block of n bytes
use Rattle.std.specs.Prelude.{ℕ, ◌-◌, Bool, if◌then◌else◌, List, length, Ok, Err, Result, ◌==◌, nat_lt}
use Rattle.memory.specs.declared.fault.MemoryFault.{MemoryFault}
use Rattle.std.specs.Option.{ok_or}
use Rattle.table.specs.PlaceLaw.{place_for}
use Rattle.rows.specs.Rows.{block_free, handle_free}
use Rattle.rows.specs.Slots.{highest}
use Rattle.faults.specs.declared.Fault.{Fault}
use Rattle.faults.specs.declared.Fault.TheVariants.{Shut, Memory, OutOfRange, NoHandleRow, NoBlockRow, NoPlace}
use Rattle.table.specs.declared.table.Table.{Table}

abbrev pub no_row : ℕ
no_row = 64

abbrev pub and_then : {A B : Type 0} → Result A Fault → (A → Result B Fault) → Result B Fault
and_then (Ok x) rest = rest x
and_then (Err e) rest = Err e

abbrev pub or_refuse : {A B : Type 0} → Result A Fault → Table → (A → (Result B Fault × Table)) → Result B Fault × Table
or_refuse (Ok x) t rest = rest x
or_refuse (Err e) t rest = (Err e, t)

abbrev pub or_refuse_with : {A B : Type 0} → Result A Fault → Table → List ℕ → (A → (Result B Fault × Table × List ℕ)) → Result B Fault × Table × List ℕ
or_refuse_with (Ok x) t m rest = rest x
or_refuse_with (Err e) t m rest = (Err e, t, m)

abbrev pub open_check : Table → ℕ → Result Unit Fault
open_check t row = if t.opened then Ok tt else Err (Shut row)

abbrev pub memory_check : Table → List ℕ → (ℕ → MemoryFault) → ℕ → Result Unit Fault
memory_check t m f row = if t.limit == 0 then Ok tt else (if nat_lt (t.limit - 1) (length m) then Ok tt else Err (Memory row (f (t.limit - 1))))

abbrev pub range_check : Bool → ℕ → Result Unit Fault
range_check ok row = if ok then Ok tt else Err (OutOfRange row)

abbrev pub handle_row_check : Table → ℕ → Result ℕ Fault
handle_row_check t row = ok_or (highest handle_free t.handles) (NoHandleRow row)

abbrev pub block_row_check : Table → ℕ → Result ℕ Fault
block_row_check t row = ok_or (highest block_free t.blocks) (NoBlockRow row)

abbrev pub place_check : Table → ℕ → ℕ → Result ℕ Fault
place_check t n row = ok_or (place_for t n) (NoPlace row n)
