-- The calls on BytesMut: what each answers to a token k, and the table t, the bytes m and the buffer that it leaves.
-- f are the memory's faults and g is the growth rule.
--   token_of t row        the token that the ledger gives for a row
--   writable_check t k    the handle of the token, in an open ledger that knows it
--   pair_check t k o      the handles of two tokens of different rows
--   handed_back o r       what a call answers that took the token o: a refusal gives it back
--   joining b o           what trying to join the handle of o answers: done, or the token where it declines
--   handle_found, pair_found   what was found of a token, or of two, without the rows
use Rattle.std.specs.Prelude.{ℕ, Bool, true, false, cond, List, Some, None, Ok, Err, Option, Result, ◌==◌}
use Rattle.memory.specs.declared.fault.MemoryFault.{MemoryFault}
use Rattle.std.specs.Option.{ok_or}
use Rattle.table.specs.Checks.{and_then, no_row, open_check, or_refuse, or_refuse_with}
use Rattle.table.specs.Tables.{detach, handle_at}
use Rattle.faults.specs.declared.Fault.{Fault}
use Rattle.faults.specs.declared.Fault.TheVariants as fault
use Rattle.rows.specs.declared.handle.HandleRow.{HandleRow}
use Rattle.rows.specs.declared.handle.HandleRow.TheVariants as row
use Rattle.rows.specs.declared.handle.Held.{Held}
use Rattle.rows.specs.declared.handle.WritableHandle.{WritableHandle}
use Rattle.table.specs.declared.table.Table.{Table}
use Rattle.writable.specs.Calls.{advance_of, extend_of, from_of, read_of, reserve_of, truncate_of, try_reclaim_of, with_capacity_of}
use Rattle.splitting.specs.Joins.{try_unsplit_of, unsplit_of}
use Rattle.splitting.specs.Splits.{split_off_of, split_to_of}
use Rattle.ledger.specs.declared.bytes_mut.BytesMut.{BytesMut}
use Rattle.ledger.specs.declared.bytes_mut.Refused.{Refused}

abbrev pub token_of : Table → ℕ → BytesMut
token_of t i = record { ledger = t.number; row = i; spent = false }

abbrev pub writable_in : HandleRow → Option WritableHandle
writable_in row.Free = None
writable_in (row.Writable h) = Some h
writable_in (row.ReadOnly h) = None

abbrev pub writable_check : Table → BytesMut → Result WritableHandle Fault
writable_check t k =
    and_then (open_check t k.row) (λ _.
    ok_or (cond (k.ledger == t.number) (writable_in (handle_at t k.row)) None) (fault.UnknownToken k.row))

abbrev pub different : Table → BytesMut → BytesMut → WritableHandle → WritableHandle → Result (WritableHandle × WritableHandle) Fault
different t k o h g = cond (k.row == o.row) (Err (fault.SameRow k.row)) (Ok (h, g))

abbrev pub pair_check : Table → BytesMut → BytesMut → Result (WritableHandle × WritableHandle) Fault
pair_check t k o = and_then (writable_check t k) (λ h. and_then (writable_check t o) (λ g. different t k o h g))

abbrev pub handle_found : Result Held Fault → Result WritableHandle Fault
handle_found (Ok x) = Ok x.handle
handle_found (Err e) = Err e

abbrev pub pair_found : Result (Held × Held × BytesMut) Refused → Result (WritableHandle × WritableHandle) Fault
pair_found (Ok p) = Ok (p.0.handle, p.1.handle)
pair_found (Err r) = Err r.fault

abbrev pub tokened : Table → Result ℕ Fault → Result BytesMut Fault
tokened t (Ok i) = Ok (token_of t i)
tokened t (Err e) = Err e

abbrev pub with_capacity_call : Table → ℕ → Result BytesMut Fault × Table
with_capacity_call t n = or_refuse (open_check t no_row) t (λ _. (tokened t (with_capacity_of t n).0, (with_capacity_of t n).1))

abbrev pub from_call : Table → List ℕ → (ℕ → MemoryFault) → List ℕ → Result BytesMut Fault × Table × List ℕ
from_call t m f xs = or_refuse_with (open_check t no_row) t m (λ _. (tokened t (from_of t m f xs).0, (from_of t m f xs).1, (from_of t m f xs).2))

abbrev pub len_call : Table → BytesMut → Result ℕ Fault
len_call t k = and_then (writable_check t k) (λ h. Ok h.len)

abbrev pub capacity_call : Table → BytesMut → Result ℕ Fault
capacity_call t k = and_then (writable_check t k) (λ h. Ok h.capacity)

abbrev pub read_known : Result WritableHandle Fault → Table → List ℕ → (ℕ → MemoryFault) → BytesMut → ℕ → List ℕ → Result Unit Fault × List ℕ
read_known (Ok h) t m f k at out = read_of t m f k.row h.start h.len at out
read_known (Err e) t m f k at out = (Err e, out)

abbrev pub read_call : Table → List ℕ → (ℕ → MemoryFault) → BytesMut → ℕ → List ℕ → Result Unit Fault × List ℕ
read_call t m f k at out = read_known (writable_check t k) t m f k at out

abbrev pub split_off_call : Table → BytesMut → ℕ → Result BytesMut Fault × Table
split_off_call t k at = or_refuse (writable_check t k) t (λ h. (tokened t (split_off_of t k.row h at).0, (split_off_of t k.row h at).1))

abbrev pub split_to_call : Table → BytesMut → ℕ → Result BytesMut Fault × Table
split_to_call t k at = or_refuse (writable_check t k) t (λ h. (tokened t (split_to_of t k.row h at).0, (split_to_of t k.row h at).1))

abbrev pub split_call : Table → BytesMut → Result BytesMut Fault × Table
split_call t k = or_refuse (writable_check t k) t (λ h. (tokened t (split_to_of t k.row h h.len).0, (split_to_of t k.row h h.len).1))

abbrev pub truncate_call : Table → BytesMut → ℕ → Result Unit Fault × Table
truncate_call t k n = or_refuse (writable_check t k) t (λ h. (Ok tt, truncate_of t k.row h n))

abbrev pub advance_call : Table → BytesMut → ℕ → Result Unit Fault × Table
advance_call t k n = or_refuse (writable_check t k) t (λ h. advance_of t k.row h n)

abbrev pub reserve_call : Table → List ℕ → (ℕ → MemoryFault) → (ℕ → ℕ → ℕ) → BytesMut → ℕ → Result ℕ Fault × Table × List ℕ
reserve_call t m f g k a = or_refuse_with (writable_check t k) t m (λ h. reserve_of t m f g k.row h a)

abbrev pub try_reclaim_call : Table → List ℕ → (ℕ → MemoryFault) → BytesMut → ℕ → Result (Option ℕ) Fault × Table × List ℕ
try_reclaim_call t m f k a = or_refuse_with (writable_check t k) t m (λ h. try_reclaim_of t m f k.row h a)

abbrev pub extend_call : Table → List ℕ → (ℕ → MemoryFault) → (ℕ → ℕ → ℕ) → BytesMut → List ℕ → Result ℕ Fault × Table × List ℕ
extend_call t m f g k xs = or_refuse_with (writable_check t k) t m (λ h. extend_of t m f g k.row h xs)

abbrev pub joining : Bool → BytesMut → Result Unit BytesMut
joining true o = Ok tt
joining false o = Err o

abbrev pub try_unsplit_known : Result (WritableHandle × WritableHandle) Fault → Table → BytesMut → BytesMut → Result (Result Unit BytesMut) Refused × Table
try_unsplit_known (Ok p) t k o = (Ok (joining (try_unsplit_of t k.row p.0 o.row p.1).0 o), (try_unsplit_of t k.row p.0 o.row p.1).1)
try_unsplit_known (Err e) t k o = (Err (record { fault = e; token = o }), t)

abbrev pub try_unsplit_call : Table → BytesMut → BytesMut → Result (Result Unit BytesMut) Refused × Table
try_unsplit_call t k o = try_unsplit_known (pair_check t k o) t k o

abbrev pub handed_back : BytesMut → Result ℕ Fault × Table × List ℕ → Result ℕ Refused × Table × List ℕ
handed_back o (Ok n, t, m) = (Ok n, t, m)
handed_back o (Err e, t, m) = (Err (record { fault = e; token = o }), t, m)

abbrev pub unsplit_known : Result (WritableHandle × WritableHandle) Fault → Table → List ℕ → (ℕ → MemoryFault) → (ℕ → ℕ → ℕ) → BytesMut → BytesMut → Result ℕ Refused × Table × List ℕ
unsplit_known (Ok p) t m f g k o = handed_back o (unsplit_of t m f g k.row p.0 o.row p.1)
unsplit_known (Err e) t m f g k o = handed_back o (Err e, t, m)

abbrev pub unsplit_call : Table → List ℕ → (ℕ → MemoryFault) → (ℕ → ℕ → ℕ) → BytesMut → BytesMut → Result ℕ Refused × Table × List ℕ
unsplit_call t m f g k o = unsplit_known (pair_check t k o) t m f g k o

abbrev pub released : Result WritableHandle Fault → Table → BytesMut → Result Unit Refused × Table
released (Ok h) t k = (Ok tt, detach t k.row)
released (Err e) t k = (Err (record { fault = e; token = k }), t)

abbrev pub release_call : Table → BytesMut → Result Unit Refused × Table
release_call t k = released (writable_check t k) t k
