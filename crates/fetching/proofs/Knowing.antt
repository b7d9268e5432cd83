-- What keeps a token known, and what makes one known.
use Rattle.std.proofs.Common.{◌≡◌, ℕ, ◌<◌, true, false, List, length, Ok, Err, Result, IfOk, sym, refl, ap, subst, arith}
use Rattle.std.proofs.lemmas.Bool.{cond_both, false≢true}
use Rattle.std.proofs.lemmas.List.{get_or-set_same, length-set}
use Rattle.faults.specs.declared.Fault.{Fault}
use Rattle.fetching.specs.Knowing.{Knows}
use Rattle.ledger.specs.BytesMut.{advance_call, extend_call, token_of, tokened, with_capacity_call, writable_check}
use Rattle.ledger.specs.declared.bytes_mut.BytesMut.{BytesMut}
use Rattle.memory.specs.declared.fault.MemoryFault.{MemoryFault}
use Rattle.reserve.specs.Rooms.{carried, need_check, room_of}
use Rattle.reserve.specs.Rules.{rule_of}
use Rattle.reserve.specs.declared.room.Room.{Room}
use Rattle.reserve.specs.declared.rules.ReserveRule.{ReserveRule}
use Rattle.reserve.specs.declared.rules.ReserveRule.TheVariants.{Keep, Slide, Grow, Widen, MoveOut}
use Rattle.rows.specs.Rows.{block_in, block_of, blocked, handle_free, lowered, writable}
use Rattle.rows.specs.declared.block.Block.{Block}
use Rattle.rows.specs.declared.block.BlockRow.{BlockRow}
use Rattle.rows.specs.declared.handle.HandleRow.{HandleRow}
use Rattle.rows.specs.declared.handle.HandleRow.TheVariants as row
use Rattle.rows.specs.declared.handle.WritableHandle.{WritableHandle}
use Rattle.table.proofs.Passing.{both_after, handle_row_passed, opened_from, table_after}
use Rattle.table.proofs.SoundSteps.{live_row}
use Rattle.table.specs.Checks.{block_row_check, handle_row_check, memory_check, no_row, open_check, place_check, range_check}
use Rattle.table.specs.Soundness.{Sound}
use Rattle.table.specs.Tables.{block_at, handle_at, let_go, with_block, with_handle}
use Rattle.table.specs.declared.table.Table.{Table}
use Rattle.writable.specs.Calls.{extended, make_of, row_made}
use Rattle.writable.specs.declared.calls.Made.{Made}

-- What may be done to the rows.

-- the table is open, has the token's number, and has the token's row
record Has (k : BytesMut) (t : Table) : Type 0 where
  opened : t.opened ≡ true
  number : k.ledger ≡ t.number
  inside : k.row < length t.handles

live_writable : (h : HandleRow) → writable h ≡ true → handle_free h ≡ false
live_writable row.Free w = absurd (false≢true w)
live_writable (row.Writable h) w = refl
live_writable (row.ReadOnly h) w = refl

has_known : (k : BytesMut) (t : Table) → Sound t → Knows t k → Has k t
has_known k t s knows = record {
  opened = knows.opened;
  number = knows.number;
  inside = let inside = live_row s k.row (live_writable (handle_at t k.row) knows.holds) in omega (arith, inside, s.rows);
}

has_block : (k : BytesMut) (t : Table) (b : ℕ) (x : BlockRow) → Has k t → Has k (with_block t b x)
has_block k t b x has = record { opened = has.opened; number = has.number; inside = has.inside }

has_let_go : (k : BytesMut) (t : Table) (h : HandleRow) → Has k t → Has k (let_go t h)
has_let_go k t h has = cond_both (blocked h) (with_block t (block_of h) (lowered (block_at t (block_of h)))) t (Has k) (λ _. has_block k t _ _ has) (λ _. has)

has_put : (k : BytesMut) (t : Table) (h : HandleRow) → Has k t → Has k (with_handle t k.row h)
has_put k t h has = record { opened = has.opened; number = has.number; inside = omega (arith, has.inside, length-set t.handles k.row h) }

put_known : (k : BytesMut) (t : Table) (h : WritableHandle) → Has k t → Knows (with_handle t k.row (row.Writable h)) k
put_known k t h has = record {
  opened = has.opened;
  number = has.number;
  holds = ap writable (get_or-set_same t.handles k.row (row.Writable h) row.Free has.inside);
}

-- Bytes dropped at the front.

module _ (t : Table) (k : BytesMut) (s : Sound t) (knows : Knows t k) where
  advance_known : (n : ℕ) → Knows (advance_call t k n).1 k
  advance_known n =
      table_after (λ o. Knows o.1 k) (writable_check t k) t _ (λ _. knows) (λ _ _.
      table_after (λ o. Knows o.1 k) (range_check _ k.row) t _ (λ _. knows) (λ _ _. put_known k t _ (has_known k t s knows)))

-- Room behind a handle, and bytes put there.

-- the table still knows the token, and has its row
abbrev Stays : BytesMut → Table → Type 0
Stays k t = Knows t k × Has k t

put_stays : (k : BytesMut) (t : Table) (h : WritableHandle) → Has k t → Stays k (with_handle t k.row (row.Writable h))
put_stays k t h has = (put_known k t h has, has_put k t (row.Writable h) has)

module _ (t : Table) (m : List ℕ) (g : ℕ → ℕ → ℕ) (k : BytesMut) (h : WritableHandle) (stays : Stays k t) where
  abbrev After : Result Room Fault × Table × List ℕ → Type 0
  After o = Stays k o.1

  carried_stays : (b : Block) (r : ReserveRule) → After (carried t m g k.row h b r)
  carried_stays b Keep = stays
  carried_stays b Slide = put_stays k t _ stays.1
  carried_stays b (Grow n) =
      both_after After (need_check t n k.row) t m _ (λ _. stays) (λ _ _.
      both_after After (place_check t (g b.size n) k.row) t m _ (λ _. stays) (λ _ _. put_stays k _ _ (has_block k t _ _ stays.1)))
  carried_stays b (Widen c) = put_stays k t _ stays.1
  carried_stays b (MoveOut n) =
      both_after After (block_row_check t k.row) t m _ (λ _. stays) (λ _ _.
      both_after After (place_check t n k.row) t m _ (λ _. stays) (λ _ _.
      put_stays k _ _ (has_block k _ _ _ (has_put k _ row.Free (has_let_go k t _ stays.1)))))

  room_stays : (a : ℕ) → After (room_of t m g k.row h a)
  room_stays a = carried_stays (block_in (block_at t h.block)) (rule_of h (block_in (block_at t h.block)) a)

put_behind : (k : BytesMut) (xs : List ℕ) (o : Result Room Fault × Table × List ℕ) → Stays k o.1 → Knows (extended o k.row xs).1 k
put_behind k xs (Ok room, t, m) stays = put_known k t _ stays.1
put_behind k xs (Err e, t, m) stays = stays.0

module _ (t : Table) (m : List ℕ) (f : ℕ → MemoryFault) (g : ℕ → ℕ → ℕ) (k : BytesMut) (s : Sound t) (knows : Knows t k) where
  extend_known : (xs : List ℕ) → Knows (extend_call t m f g k xs).1 k
  extend_known xs =
      both_after (λ o. Knows o.1 k) (writable_check t k) t m _ (λ _. knows) (λ h _.
      both_after (λ o. Knows o.1 k) (memory_check t m f k.row) t m _ (λ _. knows) (λ _ _.
      put_behind k xs _ (room_stays t m g k h (knows, has_known k t s knows) (length xs))))

-- A new handle.

-- a table that made a handle knows the handle's token
abbrev KnownOf : Table → Result Made Fault × Table → Type 0
KnownOf t o = IfOk (tokened t (row_made o).0) (Knows (row_made o).1)

make_known : (t : Table) (k n : ℕ) → Sound t → t.opened ≡ true → KnownOf t (make_of t k n)
make_known t k n s opened =
    table_after (KnownOf t) (handle_row_check t no_row) t _ (λ _. tt) (λ i free.
    table_after (KnownOf t) (block_row_check t no_row) t _ (λ _. tt) (λ b _.
    table_after (KnownOf t) (place_check t n no_row) t _ (λ _. tt) (λ p _.
    let inside = (handle_row_passed t no_row s i free).0 in
    put_known (token_of t i) _ _ (record { opened = opened; number = refl; inside = omega (arith, inside, s.rows) }))))

capacity_known : (t : Table) (n : ℕ) → Sound t → IfOk (with_capacity_call t n).0 (Knows (with_capacity_call t n).1)
capacity_known t n s = table_after (λ o. IfOk o.0 (Knows o.1)) (open_check t no_row) t _ (λ _. tt) (λ x passed. make_known t 0 n s (opened_from t no_row x (sym passed)))

-- What the tables know that the calls leave.

module _ (t u : Table) (s : Sound t) where
  pub known_advanced : (k : BytesMut) (n : ℕ) (o : Result Unit Fault) → (o, u) ≡ advance_call t k n → Knows t k → Knows u k
  known_advanced k n o e knows = subst (λ (r : Result Unit Fault × Table). Knows r.1 k) (sym e) (advance_known t k s knows n)

  pub known_extended : (m m' : List ℕ) (f : ℕ → MemoryFault) (g : ℕ → ℕ → ℕ) (k : BytesMut) (xs : List ℕ) (o : Result ℕ Fault) → (o, u, m') ≡ extend_call t m f g k xs → Knows t k → Knows u k
  known_extended m m' f g k xs o e knows = subst (λ (r : Result ℕ Fault × Table × List ℕ). Knows r.1 k) (sym e) (extend_known t m f g k s knows xs)

  pub known_made : (n : ℕ) (k : BytesMut) → (Ok k, u) ≡ with_capacity_call t n → Knows u k
  known_made n k e = subst (λ (r : Result BytesMut Fault × Table). IfOk r.0 (Knows r.1)) (sym e) (capacity_known t n s)
