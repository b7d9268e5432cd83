-- What every run keeps, from the first call on a new ledger to any later moment.
--   part m s n            n bytes of m from position s on
--   Promises f t m k      of the table t, the bytes m and the book k
--     counted             the count of a live block is the number of handles over it, and never zero
--     blocks_apart        no byte lies in two live blocks
--     capacities_apart    no byte lies in the capacity of two writable handles
--     in_use, unused      the rows in use are exactly those with a list in the book
--     shown               each shows exactly its list
--     len_told            an accepted len answers the list's length
--     read_told           an accepted read answers the part asked for
--   Keeps f r             the promises of what the run r has come to, and that its slides do not outrun its distances
--   EveryRunKeepsItsPromises   over every memory, whatever its bytes and faults, and every list of calls: opening, tally and
--                         the calls on handles, accepted and refused, with any tokens, numbers and growth rules
use Rattle.std.specs.Prelude.{◌≡◌, ℕ, ◌<◌, ◌≤◌, true, false, ◌≢◌, List, length, take, drop, Some, None, Ok, count_by}
use Rattle.memory.specs.declared.fault.MemoryFault.{MemoryFault}
use Rattle.rows.specs.Rows.{block_free, count_of, handle_free, len_of, names, start_of, writable}
use Rattle.table.specs.Soundness.{InBlock, InHandle}
use Rattle.table.specs.Tables.{block_at, handle_at}
use Rattle.table.specs.declared.table.Table.{Table}
use Rattle.ledger.specs.BytesMut.{len_call, read_call}
use Rattle.ledger.specs.declared.bytes_mut.BytesMut.{BytesMut}
use Rattle.law.specs.Book.{Book, list_of, listed}
use Rattle.law.specs.Calls.{Call}
use Rattle.law.specs.Runs.{Run, begun, run}

abbrev pub part : List ℕ → ℕ → ℕ → List ℕ
part m s n = take n (drop s m)

pub record Promises (f : ℕ → MemoryFault) (t : Table) (m : List ℕ) (k : Book) : Type 0 where
  pub counted : (b : ℕ) → block_free (block_at t b) ≡ false → (count_of (block_at t b) ≡ count_by (names b) t.handles) × (0 < count_of (block_at t b))
  pub blocks_apart : (b c p : ℕ) → b ≢ c → InBlock p (block_at t b) → InBlock p (block_at t c) → ⊥
  pub capacities_apart : (i j p : ℕ) → i ≢ j → writable (handle_at t i) ≡ true → writable (handle_at t j) ≡ true → InHandle p (handle_at t i) → InHandle p (handle_at t j) → ⊥
  pub in_use : (i : ℕ) → handle_free (handle_at t i) ≡ false → (listed k i ≢ None)
  pub unused : (i : ℕ) → handle_free (handle_at t i) ≡ true → listed k i ≡ None
  pub shown : (i : ℕ) (xs : List ℕ) → listed k i ≡ Some xs → part m (start_of (handle_at t i)) (len_of (handle_at t i)) ≡ xs
  pub len_told : (token : BytesMut) (n : ℕ) → len_call t token ≡ Ok n → n ≡ length (list_of k token.row)
  pub read_told : (token : BytesMut) (at : ℕ) (out : List ℕ) → (read_call t m f token at out).0 ≡ Ok tt → (read_call t m f token at out).1 ≡ part (list_of k token.row) at (length out)

pub record Keeps (f : ℕ → MemoryFault) (r : Run) : Type 0 where
  pub promises : Promises f r.state.table r.state.memory r.book
  pub slides_paid : r.slid ≤ r.distances

abbrev pub EveryRunKeepsItsPromises : Type 0
EveryRunKeepsItsPromises = (f : ℕ → MemoryFault) (m : List ℕ) (calls : List Call) → Keeps f (run f (begun m) calls)
