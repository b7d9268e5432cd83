-- What a token's handle shows.
--   view t m k      the bytes that the handle in the row of the token k shows, where t is the table and m the bytes of the memory
use Rattle.std.specs.Prelude.{ℕ, List}
use Rattle.rows.specs.Rows.{len_of, start_of}
use Rattle.table.specs.Tables.{handle_at}
use Rattle.table.specs.declared.table.Table.{Table}
use Rattle.ledger.specs.declared.bytes_mut.BytesMut.{BytesMut}
use Rattle.law.specs.Law.{part}

unfoldable pub view : Table → List ℕ → BytesMut → List ℕ
view t m k = part m (start_of (handle_at t k.row)) (len_of (handle_at t k.row))
