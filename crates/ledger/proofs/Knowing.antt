-- What a ledger that knows a token tells of its handle.
use Rattle.std.proofs.Common.{◌≡◌, ℕ, Bool, true, false, cond, eqb, ◌≢◌, None, Ok, Err, Result, refl, ap, ◌∙◌}
use Rattle.std.proofs.lemmas.Bool.{eqb-false}
use Rattle.std.specs.Option.{ok_or}
use Rattle.table.proofs.Passing.{and_then_passed, refused_ok}
use Rattle.table.specs.Checks.{and_then}
use Rattle.table.specs.Tables.{handle_at}
use Rattle.faults.specs.declared.Fault.{Fault}
use Rattle.faults.specs.declared.Fault.TheVariants.{SameRow, Shut, UnknownToken}
use Rattle.rows.specs.declared.handle.HandleRow.{HandleRow}
use Rattle.rows.specs.declared.handle.HandleRow.TheVariants as row
use Rattle.rows.specs.declared.handle.WritableHandle.{WritableHandle}
use Rattle.table.specs.declared.table.Table.{Table}
use Rattle.ledger.specs.BytesMut.{pair_check, writable_check, writable_in}
use Rattle.ledger.specs.declared.bytes_mut.BytesMut.{BytesMut}

-- the row holds the handle, and the ledger is open
pub record Known (t : Table) (i : ℕ) (h : WritableHandle) : Type 0 where
  pub held : handle_at t i ≡ row.Writable h
  pub opened : t.opened ≡ true

by_number : (same : Bool) (r : HandleRow) (e : Fault) (h : WritableHandle) → ok_or (cond same (writable_in r) None) e ≡ Ok h → r ≡ row.Writable h
by_number true row.Free e h q = refused_ok q
by_number true (row.Writable g) e h q = let same : g ≡ h = cc in ap row.Writable same
by_number true (row.ReadOnly g) e h q = refused_ok q
by_number false r e h q = refused_ok q

by_opening : (t : Table) (k : BytesMut) (h : WritableHandle) (o : Bool) → t.opened ≡ o → and_then (cond {A = Result (Unit {0}) Fault} o (Ok tt) (Err (Shut k.row))) (λ _. ok_or (cond (eqb k.ledger t.number) (writable_in (handle_at t k.row)) None) (UnknownToken k.row)) ≡ Ok h → Known t k.row h
by_opening t k h true q e = record { held = by_number (eqb k.ledger t.number) (handle_at t k.row) (UnknownToken k.row) h e; opened = q }
by_opening t k h false q e = refused_ok e

pub known : (t : Table) (k : BytesMut) (h : WritableHandle) → writable_check t k ≡ Ok h → Known t k.row h
known t k h e = by_opening t k h t.opened refl e

-- the two rows hold the handles, and are different
pub record KnownPair (t : Table) (i j : ℕ) (h g : WritableHandle) : Type 0 where
  pub held : handle_at t i ≡ row.Writable h
  pub other_held : handle_at t j ≡ row.Writable g
  pub two : i ≢ j
  pub opened : t.opened ≡ true

by_row : (b : Bool) (e : Fault) (q p : WritableHandle × WritableHandle) → cond b (Err e) (Ok q) ≡ Ok p → (b ≡ false) × (q ≡ p)
by_row true e q p h = refused_ok h
by_row false e q p h = (refl, cc)

pub known_both : (t : Table) (k o : BytesMut) (p : WritableHandle × WritableHandle) → pair_check t k o ≡ Ok p → KnownPair t k.row o.row p.0 p.1
known_both t k o p e =
    let first = and_then_passed (writable_check t k) _ p e in
    let second = and_then_passed (writable_check t o) _ p first.2 in
    let apart = by_row (eqb k.row o.row) (SameRow k.row) (first.0, second.0) p second.2 in
    let h = known t k first.0 first.1 in
    let g = known t o second.0 second.1 in
    record {
      held = h.held ∙ ap (λ (q : WritableHandle × WritableHandle). row.Writable q.0) apart.1;
      other_held = g.held ∙ ap (λ (q : WritableHandle × WritableHandle). row.Writable q.1) apart.1;
      two = eqb-false k.row o.row apart.0;
      opened = h.opened;
    }
