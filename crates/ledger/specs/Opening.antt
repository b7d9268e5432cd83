-- Opening a ledger, and what it holds.
--   open_call t n f s   the table t opened with a number, the fixed part below f and the working part up to s
--   tally_of t          the live handles, the live blocks, and the bytes in blocks
--   tally_call t        the same of an open ledger
use Rattle.std.specs.Prelude.{ℕ, cond, ◌||◌, Ok, Err, Result, nat_lt}
use Rattle.table.specs.Checks.{and_then, no_row, open_check}
use Rattle.table.specs.Tables.{opened_table, tally_of}
use Rattle.faults.specs.declared.Fault.{Fault}
use Rattle.faults.specs.declared.Fault.TheVariants as fault
use Rattle.table.specs.declared.table.Table.{Table}
use Rattle.table.specs.declared.tally.Tally.{Tally}

abbrev pub open_call : Table → ℕ → ℕ → ℕ → Result Unit Fault × Table
open_call t n f s = cond (t.opened || (nat_lt s f || nat_lt 16777216 s)) (Err (fault.Opening no_row), t) (Ok tt, opened_table t n f s)

abbrev pub tally_call : Table → Result Tally Fault
tally_call t = and_then (open_check t no_row) (λ _. Ok (tally_of t))
