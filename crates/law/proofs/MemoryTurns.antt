-- What the calls keep that write into the memory: from, reserve, try_reclaim and extend.
use Rattle.std.proofs.Common.{◌≡◌, ℕ, ◌+◌, ◌<◌, ◌≤◌, List, length, set, Some, None, Option, Ok, Err, Result, sym, refl, ap, subst, arith}
use Rattle.memory.specs.declared.fault.MemoryFault.{MemoryFault}
use Rattle.table.proofs.SoundSteps.{live_row}
use Rattle.table.specs.Checks.{memory_check, no_row, open_check, or_refuse_with}
use Rattle.rows.specs.Rows.{block_in, handle_free}
use Rattle.table.specs.Soundness.{Sound}
use Rattle.table.specs.Tables.{block_at, handle_at}
use Rattle.faults.specs.declared.Fault.{Fault}
use Rattle.rows.specs.declared.handle.HandleRow.TheVariants as row
use Rattle.rows.specs.declared.handle.WritableHandle.{WritableHandle}
use Rattle.table.specs.declared.table.Table.{Table}
use Rattle.ledger.proofs.Knowing.{known}
use Rattle.reserve.proofs.HandleFacts.{handled}
use Rattle.table.proofs.Passing.{both_after, memory_reaches}
use Rattle.writable.specs.Calls.{extended, filled, slid_of, told}
use Rattle.reserve.specs.Rooms.{reclaim_of, room_of}
use Rattle.reserve.specs.declared.room.Room.{Room}
use Rattle.ledger.specs.BytesMut.{tokened, writable_check}
use Rattle.ledger.specs.declared.bytes_mut.BytesMut.{BytesMut}
use Rattle.law.proofs.Checked.{make_on}
use Rattle.law.proofs.Kept.{Kept}
use Rattle.law.proofs.RoomsKept.{ReclaimKept, RoomKept, reclaim_kept, room_kept, sound_shorter}
use Rattle.law.proofs.Writes.{extend_kept, made_kept, retotalled}
use Rattle.law.specs.Calls as calls
use Rattle.law.specs.Calls.{Answer, Call, Rule, State, on_both, turn}
use Rattle.law.specs.Runs.{Run, gone}

-- what the run r has come to is kept, with the marks
abbrev pub RunKept : Run → List ℕ → Type 0
RunKept r marks = Kept r.found r.state.table r.state.memory r.book marks r.slid r.distances

-- what it comes to by the call c with the outcome o is kept, with some marks
abbrev pub TurnKept : Run → Call → Answer × State → Type 0
TurnKept r c o = (marks : List ℕ) × RunKept (gone r c o) marks

-- the run r, kept with the marks, where f are the memory's faults
module _ (f : ℕ → MemoryFault) (r : Run) {marks : List ℕ} (kept : RunKept r marks) where
  refused_kept : (c : Call) (e : Fault) → TurnKept r c (calls.Refused e, r.state)
  refused_kept c e = (marks, retotalled kept (r.slid + 0) (r.distances + 0) (omega (arith, kept.paid)))

  pub from_turn : (xs : List ℕ) → Sound (turn f r.state (calls.from xs)).1.table → TurnKept r (calls.from xs) (turn f r.state (calls.from xs))
  from_turn xs =
      let t = r.state.table in
      let m = r.state.memory in
      both_after (λ o. Sound o.1 → TurnKept r (calls.from xs) (on_both calls.made o)) (open_check t no_row) t m _ refused (λ _ _.
      both_after Answered (memory_check t m f no_row) t m _ refused (λ x ok.
      make_on t (length xs) (length xs) kept.sound (λ o. Answered (filled o m xs)) (λ i b p li _ lb free _ s.
      let after = made_kept kept (memory_reaches t m f no_row x (sym ok)) i b p xs li lb free s in
      (set marks b 0, retotalled after (r.slid + 0) (r.distances + 0) (omega (arith, after.paid))))
      refused))
    where
      Answered : Result ℕ Fault × Table × List ℕ → Type 0
      Answered o = Sound o.1 → TurnKept r (calls.from xs) (on_both calls.made (tokened r.state.table o.0, o.1, o.2))

      refused : (e : Fault) → Sound r.state.table → TurnKept r (calls.from xs) (calls.Refused e, r.state)
      refused e _ = refused_kept (calls.from xs) e

  -- a call on a writable handle, behind the checks of its token and of the memory
  module _ {B : Type 0} (c : Call) (k : BytesMut) (says : Result B Fault → Answer) (refuses : (e : Fault) → says (Err e) ≡ calls.Refused e) where
    abbrev OutcomeKept : Result B Fault × Table × List ℕ → Type 0
    OutcomeKept o = Sound o.1 → TurnKept r c (on_both says o)

    known_kept : (rest : WritableHandle → (Result B Fault × Table × List ℕ)) → ((h : WritableHandle) → handle_at r.state.table k.row ≡ row.Writable h → r.state.table.limit ≤ length r.state.memory → OutcomeKept (rest h)) → OutcomeKept (or_refuse_with (writable_check r.state.table k) r.state.table r.state.memory (λ h. or_refuse_with (memory_check r.state.table r.state.memory f k.row) r.state.table r.state.memory (λ _. rest h)))
    known_kept rest each =
        let t = r.state.table in
        let m = r.state.memory in
        let refused : (e : Fault) → OutcomeKept (Err e, t, m) = λ e _. subst (λ x. TurnKept r c (x, r.state)) (sym (refuses e)) (refused_kept c e) in
        both_after OutcomeKept (writable_check t k) t m _ refused (λ h is.
        both_after OutcomeKept (memory_check t m f k.row) t m _ refused (λ x ok. each h (known t k h is).held (memory_reaches t m f k.row x (sym ok))))

  pub reserve_turn : (k : BytesMut) (g : Rule) (a : ℕ) → Sound (turn f r.state (calls.reserve k g a)).1.table → TurnKept r (calls.reserve k g a) (turn f r.state (calls.reserve k g a))
  reserve_turn k g a =
      let room = λ (h : WritableHandle). room_of r.state.table r.state.memory g.grown k.row h a in
      known_kept (calls.reserve k g a) k calls.slid (λ _. refl) (λ h. slid_of (room h))
      (λ h is reaches. reserved (room h) (room_kept kept k.row h is reaches g.grown a))
    where
      reserved : (o : Result Room Fault × Table × List ℕ) → RoomKept r.found r.book r.slid r.distances k.row o → Sound (slid_of o).1 → TurnKept r (calls.reserve k g a) (on_both calls.slid (slid_of o))
      reserved (Ok x, t, m) made s =
          let after = made.kept s in
          (after.0, retotalled after.1 (r.slid + x.slid) (r.distances + 0) (omega (arith, after.1.paid)))
      reserved (Err e, t, m) left s = (left.0, retotalled left.1 (r.slid + 0) (r.distances + 0) (omega (arith, left.1.paid)))

  pub try_reclaim_turn : (k : BytesMut) (a : ℕ) → Sound (turn f r.state (calls.try_reclaim k a)).1.table → TurnKept r (calls.try_reclaim k a) (turn f r.state (calls.try_reclaim k a))
  try_reclaim_turn k a =
      let reclaim = λ (h : WritableHandle). reclaim_of r.state.table r.state.memory k.row h a in
      known_kept (calls.try_reclaim k a) k calls.reclaimed (λ _. refl) (λ h. told (reclaim h))
      (λ h is reaches s. answered (reclaim h) (reclaim_kept kept k.row h is reaches a s))
    where
      answered : (o : Option ℕ × Table × List ℕ) → ReclaimKept r.found r.book r.slid r.distances o → TurnKept r (calls.try_reclaim k a) (on_both calls.reclaimed (told o))
      answered (Some n, t, m) after = (after.0, retotalled after.1 (r.slid + n) (r.distances + 0) (omega (arith, after.1.paid)))
      answered (None, t, m) after = (after.0, retotalled after.1 (r.slid + 0) (r.distances + 0) (omega (arith, after.1.paid)))

  pub extend_turn : (k : BytesMut) (g : Rule) (xs : List ℕ) → Sound (turn f r.state (calls.extend k g xs)).1.table → TurnKept r (calls.extend k g xs) (turn f r.state (calls.extend k g xs))
  extend_turn k g xs =
      let room = λ (h : WritableHandle). room_of r.state.table r.state.memory g.grown k.row h (length xs) in
      known_kept (calls.extend k g xs) k calls.slid (λ _. refl) (λ h. extended (room h) k.row xs)
      (λ h is reaches. written (room h) (live_row kept.sound k.row (ap handle_free is)) (room_kept kept k.row h is reaches g.grown (length xs)))
    where
      written : (o : Result Room Fault × Table × List ℕ) → k.row < 64 → RoomKept r.found r.book r.slid r.distances k.row o → Sound (extended o k.row xs).1 → TurnKept r (calls.extend k g xs) (on_both calls.slid (extended o k.row xs))
      written (Ok x, t, m) l made s =
          let after = made.kept (sound_shorter t k.row x.handle (length xs) l made.here s) in
          let now = after.1 in
          let over = handled t k.row x.handle made.here now.sound (block_in (block_at t x.handle.block)) refl in
          let last = extend_kept now k.row made.here over (omega (arith, made.reaches, now.long)) xs s in
          (after.0, retotalled last (r.slid + x.slid) (r.distances + 0) (omega (arith, now.paid)))
      written (Err e, t, m) l left s = (left.0, retotalled left.1 (r.slid + 0) (r.distances + 0) (omega (arith, left.1.paid)))
