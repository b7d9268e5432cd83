-- The turns of the calls that join two writable handles keep what a run keeps.
use Rattle.std.proofs.Common.{◌≡◌, ℕ, ◌+◌, ◌<◌, ◌≤◌, true, cond, eqb, ◌≢◌, List, [], ◌++◌, length, get_or, take, drop, set, Some, None, Ok, Err, Result, sym, refl, ap, ◌∙◌, subst, arith}
use lib.Seq.{paste}
use Rattle.faults.specs.declared.Fault.{Fault}
use Rattle.ledger.proofs.Knowing.{KnownPair, known_both}
use Rattle.ledger.specs.BytesMut.{handed_back, joining, pair_check, try_unsplit_known, unsplit_known}
use Rattle.ledger.specs.declared.bytes_mut.BytesMut.{BytesMut}
use Rattle.memory.specs.declared.fault.MemoryFault.{MemoryFault}
use Rattle.reserve.proofs.HandleFacts.{handled}
use Rattle.reserve.proofs.HandlesSound.{over, row_known, sound_cut}
use Rattle.reserve.proofs.RoomOthers.{room_elsewhere}
use Rattle.reserve.proofs.RoomsSound.{Roomy, room_enough, room_sound}
use Rattle.reserve.specs.Rooms.{copied, room_of}
use Rattle.reserve.specs.declared.room.Room.{Room}
use Rattle.rows.specs.Rows.{block_in, block_of, blocked, handle_free, place_of, start_of}
use Rattle.rows.specs.declared.handle.HandleRow.TheVariants as row
use Rattle.rows.specs.declared.handle.WritableHandle.{WritableHandle}
use Rattle.splitting.proofs.JoinsSound.{Follows, following, merged_sound, taken_over_sound}
use Rattle.splitting.specs.Joins.{appended, follows, joined_by, joint_of, merged, taken_over, try_unsplit_by, unsplit_of}
use Rattle.splitting.specs.declared.unsplit.Joint.{Joint}
use Rattle.splitting.specs.declared.unsplit.Joint.TheVariants.{Nothing, Adjacent, Apart}
use Rattle.std.proofs.lemmas.List.{append-nil, get_or-set_other, length-append, set_comm, set-get_or, set-set, take-take}
use Rattle.std.proofs.lemmas.Bool.{cond_both, eqb-false, eqb-true}
use Rattle.table.proofs.Passing.{both_after, memory_reaches}
use Rattle.table.proofs.SoundShared.{detached_elsewhere}
use Rattle.table.proofs.SoundSteps.{sound_detach}
use Rattle.table.specs.Checks.{memory_check}
use Rattle.table.specs.Soundness.{Sound}
use Rattle.table.specs.Tables.{block_at, detach, handle_at, with_handle}
use Rattle.table.specs.declared.table.Table.{Table}
use Rattle.writable.specs.Calls.{longer}
use Rattle.law.proofs.BookSteps.{kept_detached, kept_relisted, kept_row}
use Rattle.law.proofs.Kept.{Kept, shown_by}
use Rattle.law.proofs.RoomsKept.{RoomKept, room_kept}
use Rattle.law.proofs.SharedSteps.{kept_passed_on}
use Rattle.law.proofs.Showing.{handle_whole, list_shown, listed_shown, part_joined}
use Rattle.law.proofs.TableTurns.{KeptAfter, KeptIn, TurnKept, refused}
use Rattle.law.proofs.Writes.{extend_kept, retotalled}
use Rattle.law.specs.Book.{Book, enter, joined, list_of, listed, strike}
use Rattle.law.specs.Calls as calls
use Rattle.law.specs.Calls.{Call, Rule, on_both, on_table}
use Rattle.law.specs.Law.{part}
use Rattle.law.specs.Runs.{Run}

-- a list that is entered as it was listed changes nothing
entered_same : (k : Book) (i : ℕ) (xs : List ℕ) → listed k i ≡ Some xs → enter k i xs ≡ k
entered_same k i xs e = ap (set k i) (sym e) ∙ set-get_or k i None

-- The handle h of row i, and g of row j.

module _ {found : List ℕ} {t : Table} {m : List ℕ} {k : Book} {marks : List ℕ} {slid distances : ℕ} (kept : Kept found t m k marks slid distances) (i j : ℕ) (h g : WritableHandle) (is : handle_at t i ≡ row.Writable h) (other : handle_at t j ≡ row.Writable g) (ne : i ≢ j) where
  -- the other ends
  ended : Kept found (detach t j) m (strike k j) marks slid distances
  ended = kept_detached kept j slid distances (ap handle_free other) (sound_detach t j kept.sound (ap handle_free other)) (omega arith)

  first_stands : handle_at (detach t j) i ≡ row.Writable h
  first_stands = detached_elsewhere t j i ne ∙ is

  -- an other that holds nothing is only ended
  pub nothing_kept : g.capacity ≡ 0 → Kept found (detach t j) m (joined k i j) marks slid distances
  nothing_kept none =
      let w = over t j g kept.sound other in
      let empty : g.len ≡ 0 = omega arith in
      let list : list_of k j ≡ [] = list_shown kept j g other ∙ ap (part m g.start) empty in
      kept_relisted ended (ap (λ b. strike b j) (sym (ap (λ xs. enter k i (list_of k i ++ xs)) list ∙ ap (enter k i) (append-nil (list_of k i) ∙ list_shown kept i h is) ∙ entered_same k i _ (listed_shown kept i h is))))

  -- one that follows is taken up
  pub merged_kept : Follows h g → 0 < g.capacity → Kept found (with_handle (detach t j) i (row.Writable (merged h g))) m (joined k i j) marks slid distances
  merged_kept w some =
      let x = merged h g in
      let lists : list_of k i ++ list_of k j ≡ part m h.start (h.len + g.len) = ap (λ xs. xs ++ list_of k j) (list_shown kept i h is) ∙ ap (λ xs. part m h.start h.len ++ xs) (list_shown kept j g other ∙ ap (λ s. part m s g.len) w.from) ∙ sym (part_joined m h.start h.len g.len) in
      let marked = subst (λ r. blocked r ≡ true → start_of r ≤ place_of (block_at (detach t j) (block_of r)) + get_or marks (block_of r) 0) first_stands (ended.marked i) refl in
      let long : length (part m h.start (h.len + g.len)) ≡ h.len + g.len = ap length (sym lists) ∙ length-append (list_of k i) (list_of k j) ∙ omega (arith, ap length (list_shown kept i h is), handle_whole kept i h is, ap length (list_shown kept j g other), handle_whole kept j g other) in
      kept_relisted
      (kept_row ended (detach t j).blocks i (row.Writable x) marks slid distances (row_known t i h kept.sound is) (merged_sound t i j h g kept.sound is other ne some w) long ended.mark_rows (λ _. marked) (λ _ _ _. omega arith) ended.paid)
      (ap (enter (strike k j) i) (sym lists) ∙ set_comm k j i None (Some (list_of k i ++ list_of k j)) (λ e. ne (sym e)))

  -- an empty first gives its row to the other
  pub taken_over_kept : h.len ≡ 0 → Kept found (taken_over t i j g) m (joined k i j) marks slid distances
  taken_over_kept empty =
      let u = detach t i in
      let there = detached_elsewhere t i j (λ e. ne (sym e)) ∙ other in
      let gone = kept_detached kept i slid distances (ap handle_free is) (sound_detach t i kept.sound (ap handle_free is)) (omega arith) in
      let list : list_of k i ≡ [] = list_shown kept i h is ∙ ap (part m h.start) empty in
      let after = subst (λ r. Sound (with_handle (with_handle u j row.Free) i r) → Kept found (with_handle (with_handle u j row.Free) i r) m (set (strike (strike k i) j) i (shown_by m r)) marks slid distances) there
      (λ sound. kept_passed_on gone i j row.Free slid distances (row_known t i h kept.sound is) (row_known t j g kept.sound other) refl refl sound (omega arith)) in
      kept_relisted (after (taken_over_sound t i j h g kept.sound is other ne))
      (ap (λ b. set b i (Some (part m g.start g.len))) (set_comm k i j None None ne) ∙ set-set (strike k j) i None (Some (part m g.start g.len)) ∙ ap (enter (strike k j) i) (sym (ap (λ xs. xs ++ list_of k j) list ∙ list_shown kept j g other)) ∙ set_comm k j i None (Some (list_of k i ++ list_of k j)) (λ e. ne (sym e)))

-- the other was joined, and n bytes slid; or the call was refused
abbrev JoinKept : List ℕ → Book → ℕ → ℕ → ℕ → ℕ → Result ℕ Fault × Table × List ℕ → Type 0
JoinKept found k slid distances i j (Ok n, t, m) = (marks : List ℕ) × Kept found t m (joined k i j) marks (slid + n) distances
JoinKept found k slid distances i j (Err e, t, m) = (marks : List ℕ) × Kept found t m k marks slid distances

-- The other's bytes written behind those of the first, where there is room.

module _ (found : List ℕ) (k : Book) (slid distances i j : ℕ) (h g : WritableHandle) (ne : i ≢ j) where
  appended_kept : (o : Result Room Fault × Table × List ℕ) → RoomKept found k slid distances i o → Sound o.1 → ((x : Room) → o.0 ≡ Ok x → Roomy o.1 i h g.len x.handle) → handle_at o.1 j ≡ row.Writable g → JoinKept found k slid distances i j (appended o i j g)
  appended_kept (Ok x, u, n) made su roomy there =
      let has = roomy x refl in
      let after = made.kept su in
      let now = after.1 in
      let at = x.handle.start + x.handle.len in
      let xs = part n g.start g.len in
      let long : length xs ≡ g.len = handle_whole now j g there in
      let wide = sound_cut u i x.handle su has.stands x.handle.start (x.handle.len + g.len) x.handle.capacity (omega arith) (omega arith) refl in
      let extended = extend_kept now i made.here (handled u i x.handle made.here su (block_in (block_at u x.handle.block)) refl) (omega (arith, made.reaches, now.long)) xs (subst (λ l. Sound (with_handle u i (row.Writable (longer x.handle l)))) (sym long) wide) in
      let written = subst (λ l. Kept found (with_handle u i (row.Writable (longer x.handle l))) (paste n at xs l) (enter k i (list_of k i ++ xs)) after.0 (slid + x.slid) distances) long extended in
      let carried : paste n at xs g.len ≡ copied n g at = ap (λ ys. take at n ++ ys ++ drop (at + g.len) n) (take-take g.len g.len (drop g.start n) (omega arith)) in
      let stands = get_or-set_other u.handles i j (row.Writable (longer x.handle g.len)) row.Free (λ e. ne (sym e)) ∙ there in
      let copied-kept = subst (λ b. Kept found (with_handle u i (row.Writable (longer x.handle g.len))) b (enter k i (list_of k i ++ xs)) after.0 (slid + x.slid) distances) carried written in
      (after.0, kept_relisted (kept_detached copied-kept j (slid + x.slid) distances (ap handle_free stands) (sound_detach _ j wide (ap handle_free stands)) (omega arith)) (ap (λ ys. strike (enter k i (list_of k i ++ ys)) j) (sym (list_shown now j g there))))
  appended_kept (Err e, u, n) left su roomy there = left

module _ (f : ℕ → MemoryFault) (r : Run) {marks : List ℕ} (kept : KeptIn r marks) (k o : BytesMut) where
  abbrev t : Table
  t = r.state.table

  abbrev m : List ℕ
  m = r.state.memory

  -- nothing but the totals, written otherwise
  same_totals : {u : Table} {b : Book} → Kept r.found u m b marks r.slid r.distances → Kept r.found u m b marks (r.slid + 0) (r.distances + 0)
  same_totals after = retotalled after (r.slid + 0) (r.distances + 0) (omega (arith, after.paid))

  pub try_unsplit_turn : TurnKept f r (calls.try_unsplit k o)
  try_unsplit_turn _ = go (pair_check t k o) refl
    where
      go : (x : Result (WritableHandle × WritableHandle) Fault) → pair_check t k o ≡ x → KeptAfter r (calls.try_unsplit k o) (on_table calls.tried r.state (try_unsplit_known x t k o))
      go (Ok p) e =
          let both = known_both t k o p e in
          let h = p.0 in
          let g = p.1 in
          let Tried = λ (x : Joint). KeptAfter r (calls.try_unsplit k o) (on_table calls.tried r.state (Ok (joining (try_unsplit_by x t k.row h o.row g).0 o), (try_unsplit_by x t k.row h o.row g).1)) in
          cond_both (eqb g.capacity 0) Nothing (cond (follows h g) Adjacent Apart) Tried
          (λ none. (marks, same_totals (nothing_kept kept k.row o.row h g both.held both.other_held both.two (eqb-true g.capacity 0 none))))
          (λ some. cond_both (follows h g) Adjacent Apart Tried
          (λ w. let nonzero = eqb-false g.capacity 0 some in (marks, same_totals (merged_kept kept k.row o.row h g both.held both.other_held both.two (following h g w) (omega arith))))
          (λ _. (marks, same_totals kept)))
      go (Err e) _ = refused r marks kept (calls.try_unsplit k o) e

  module _ (rule : Rule) where
    handed_kept : (y : Result ℕ Fault × Table × List ℕ) → JoinKept r.found r.book r.slid r.distances k.row o.row y → KeptAfter r (calls.unsplit k rule o) (on_both calls.unsplit_slid (handed_back o y))
    handed_kept (Ok n, u, b) after = (after.0, retotalled after.1 (r.slid + n) (r.distances + 0) (omega (arith, after.1.paid)))
    handed_kept (Err e, u, b) after = (after.0, retotalled after.1 (r.slid + 0) (r.distances + 0) (omega (arith, after.1.paid)))

    module _ (p : WritableHandle × WritableHandle) (both : KnownPair t k.row o.row p.0 p.1) where
      abbrev Outcome : Result ℕ Fault × Table × List ℕ → Type 0
      Outcome y = JoinKept r.found r.book r.slid r.distances k.row o.row y

      -- no byte slid
      unslid : {u : Table} {b : Book} → Kept r.found u m b marks r.slid r.distances → Kept r.found u m b marks (r.slid + 0) r.distances
      unslid after = retotalled after (r.slid + 0) r.distances (omega (arith, after.paid))

      joined_kept : t.limit ≤ length m → Outcome (joined_by (joint_of p.0 p.1) t m rule.grown k.row p.0 o.row p.1)
      joined_kept reaches =
          let h = p.0 in
          let g = p.1 in
          let s = kept.sound in
          let Joined = λ (x : Joint). Outcome (joined_by x t m rule.grown k.row h o.row g) in
          cond_both (eqb g.capacity 0) Nothing (cond (follows h g) Adjacent Apart) Joined
          (λ none. (marks, unslid (nothing_kept kept k.row o.row h g both.held both.other_held both.two (eqb-true g.capacity 0 none))))
          (λ some. cond_both (follows h g) Adjacent Apart Joined
          (λ w. let nonzero = eqb-false g.capacity 0 some in (marks, unslid (merged_kept kept k.row o.row h g both.held both.other_held both.two (following h g w) (omega arith))))
          (λ _. appended_kept r.found r.book r.slid r.distances k.row o.row h g both.two (room_of t m rule.grown k.row h g.len)
          (room_kept kept k.row h both.held reaches rule.grown g.len)
          (room_sound t m rule.grown k.row h g.len s both.held rule.enough)
          (room_enough t m rule.grown k.row h g.len s both.held rule.enough)
          (room_elsewhere t m rule.grown k.row h both.held o.row (λ e. both.two (sym e)) g.len ∙ both.other_held)))

      unsplit_kept : Outcome (unsplit_of t m f rule.grown k.row p.0 o.row p.1)
      unsplit_kept =
          both_after Outcome (memory_check t m f k.row) t m _ (λ _. (marks, kept)) (λ x ok.
          cond_both (eqb p.0.len 0) (Ok 0, taken_over t k.row o.row p.1, m) (joined_by (joint_of p.0 p.1) t m rule.grown k.row p.0 o.row p.1) Outcome
          (λ empty. (marks, unslid (taken_over_kept kept k.row o.row p.0 p.1 both.held both.other_held both.two (eqb-true p.0.len 0 empty))))
          (λ _. joined_kept (memory_reaches t m f k.row x (sym ok))))

    pub unsplit_turn : TurnKept f r (calls.unsplit k rule o)
    unsplit_turn _ = go (pair_check t k o) refl
      where
        go : (x : Result (WritableHandle × WritableHandle) Fault) → pair_check t k o ≡ x → KeptAfter r (calls.unsplit k rule o) (on_both calls.unsplit_slid (unsplit_known x t m f rule.grown k o))
        go (Ok p) e = handed_kept _ (unsplit_kept p (known_both t k o p e))
        go (Err e) _ = refused r marks kept (calls.unsplit k rule o) e
