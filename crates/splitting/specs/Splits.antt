-- What cutting a writable handle answers behind the checks of the ledger and the token, and the table that it leaves. The
-- handle h stands in the row of the table t.
--   front h at                the first at bytes of what h holds: it shows as many of them as h did
--   back h at                 what h holds behind them: it shows what h showed there
--   cut_in_two t row g new h  the handle g in its row, and h, over the same block, in a free row
--   split_off_of t row h at   the new handle takes what is behind the first at bytes
--   split_to_of t row h at    the new handle takes the first at bytes
use Rattle.std.specs.Prelude.{ℕ, ◌+◌, ◌-◌, min, Ok, Result, nat_le}
use Rattle.faults.specs.declared.Fault.{Fault}
use Rattle.rows.specs.declared.handle.HandleRow.TheVariants.{Writable}
use Rattle.rows.specs.declared.handle.WritableHandle.{WritableHandle}
use Rattle.rows.specs.declared.handle.WritableKind.TheVariants.{Counted}
use Rattle.table.specs.Checks.{handle_row_check, or_refuse, range_check}
use Rattle.table.specs.Tables.{attach, with_handle}
use Rattle.table.specs.declared.table.Table.{Table}

abbrev pub front : WritableHandle → ℕ → WritableHandle
front h at = record { kind = Counted; block = h.block; start = h.start; len = min h.len at; capacity = at }

abbrev pub back : WritableHandle → ℕ → WritableHandle
back h at = record { kind = Counted; block = h.block; start = h.start + at; len = h.len - at; capacity = h.capacity - at }

abbrev pub cut_in_two : Table → ℕ → WritableHandle → ℕ → WritableHandle → Table
cut_in_two t row g new h = attach (with_handle t row (Writable g)) new (Writable h)

abbrev pub split_off_of : Table → ℕ → WritableHandle → ℕ → Result ℕ Fault × Table
split_off_of t row h at =
    or_refuse (range_check (nat_le at h.capacity) row) t (λ _.
    or_refuse (handle_row_check t row) t (λ new. (Ok new, cut_in_two t row (front h at) new (back h at))))

abbrev pub split_to_of : Table → ℕ → WritableHandle → ℕ → Result ℕ Fault × Table
split_to_of t row h at =
    or_refuse (range_check (nat_le at h.len) row) t (λ _.
    or_refuse (handle_row_check t row) t (λ new. (Ok new, cut_in_two t row (back h at) new (front h at))))
