-- What try_reclaim promises.
--   said_yes r                 the answer r is a yes: it tells how many bytes slid
--   ReclaimsExactly t k a r   an answer r that is no refusal is a yes exactly if the block of the token k has room for a bytes more
use Rattle.std.specs.Prelude.{◌≡◌, ℕ, Bool, true, false, Some, None, Option, Ok, Decides, Result}
use Rattle.rows.specs.Rows.{block_in}
use Rattle.table.specs.Tables.{block_at}
use Rattle.faults.specs.declared.Fault.{Fault}
use Rattle.rows.specs.declared.handle.WritableHandle.{WritableHandle}
use Rattle.table.specs.declared.table.Table.{Table}
use Rattle.reserve.specs.Reclaiming.{Reclaimable}
use Rattle.ledger.specs.BytesMut.{writable_check}
use Rattle.ledger.specs.declared.bytes_mut.BytesMut.{BytesMut}

abbrev pub said_yes : Option ℕ → Bool
said_yes (Some n) = true
said_yes None = false

abbrev pub ReclaimsExactly : Table → BytesMut → ℕ → Result (Option ℕ) Fault → Type 0
ReclaimsExactly t k a r = (h : WritableHandle) (x : Option ℕ) → writable_check t k ≡ Ok h → r ≡ Ok x → Decides (said_yes x) (Reclaimable h (block_in (block_at t h.block)) a)
