-- What it is that a ledger, by its table, knows the token of a writable handle.
--   Knows t k    the table t knows the token k
--     opened     it was opened
--     number     its number is the token's
--     holds      the token's row holds a writable handle
use Rattle.std.specs.Prelude.{◌≡◌, true}
use Rattle.ledger.specs.declared.bytes_mut.BytesMut.{BytesMut}
use Rattle.rows.specs.Rows.{writable}
use Rattle.table.specs.Tables.{handle_at}
use Rattle.table.specs.declared.table.Table.{Table}

pub record Knows (t : Table) (k : BytesMut) : Type 0 where
  pub opened : t.opened ≡ true
  pub number : k.ledger ≡ t.number
  pub holds : writable (handle_at t k.row) ≡ true
