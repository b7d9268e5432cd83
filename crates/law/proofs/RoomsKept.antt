-- What is kept where room is made behind the bytes of a handle.
use Rattle.std.proofs.Common.{◌≡◌, ℕ, ◌+◌, ◌-◌, ◌*◌, ◌<◌, ◌≤◌, max, true, cond, leb, List, length, set, Option, Ok, Err, Result, sym, refl, ap, ◌∙◌, subst, arith}
use Rattle.std.proofs.lemmas.List.{get_or-set_same, length-set, set-get_or, set-set}
use Rattle.std.proofs.lemmas.Bool.{cond_both, leb-false, leb-true}
use Rattle.table.proofs.Passing.{block_row_passed, both_after}
use Rattle.table.proofs.SoundSteps.{Within, held, live_row, sound_reshape}
use Rattle.table.specs.Checks.{block_row_check, place_check}
use Rattle.rows.specs.Classes.{restored}
use Rattle.rows.specs.Rows.{block_in, block_of, blocked, count_of, extent_of, handle_free, kind_own, len_of, lone, start_of}
use Rattle.table.specs.Soundness.{Sound}
use Rattle.table.specs.Tables.{block_at, detach, handle_at, let_go, with_block, with_handle}
use Rattle.faults.specs.declared.Fault.{Fault}
use Rattle.rows.specs.declared.block.Block.{Block}
use Rattle.rows.specs.declared.block.BlockRow.TheVariants as block
use Rattle.rows.specs.declared.handle.HandleRow.{HandleRow}
use Rattle.rows.specs.declared.handle.HandleRow.TheVariants as row
use Rattle.rows.specs.declared.handle.WritableHandle.{WritableHandle}
use Rattle.rows.specs.declared.handle.WritableKind.{WritableKind}
use Rattle.rows.specs.declared.handle.WritableKind.TheVariants.{Own, Counted}
use Rattle.table.specs.declared.table.Table.{Table}
use Rattle.reserve.proofs.HandleFacts.{Enough, Handled, handled, rule_enough}
use Rattle.writable.specs.Calls.{longer}
use Rattle.reserve.specs.Rooms.{carried, grown_block, grown_handle, moved_out, moved_to, need_check, new_block, reclaim_of, reclaimed, room_of}
use Rattle.reserve.specs.Rules.{may_slide, need, rule_by, rule_of, wanted}
use Rattle.reserve.specs.declared.room.Room.{Room}
use Rattle.reserve.specs.declared.rules.ReserveRule.{ReserveRule}
use Rattle.reserve.specs.declared.rules.ReserveRule.TheVariants.{Keep, Slide, Grow, Widen, MoveOut}
use Rattle.law.proofs.Kept.{Kept}
use Rattle.law.proofs.Writes.{grow_kept, move_out_kept, retotalled, slide_kept, widen_kept}
use Rattle.law.specs.Book.{Book, slid_by}
use Rattle.law.specs.Calls as calls

-- How many handles the block has by the rule that was chosen.

abbrev Counts : Block → ReserveRule → Type 0
Counts b Keep = Unit {0}
Counts b Slide = b.count ≡ 1
Counts b (Grow n) = b.count ≡ 1
Counts b (Widen c) = Unit {0}
Counts b (MoveOut n) = 2 ≤ b.count

rule_counts_by : (k : WritableKind) (h : WritableHandle) (b : Block) (a : ℕ) → (kind_own k ≡ true → b.count ≡ 1) → 0 < b.count → Counts b (rule_by k h b a)
rule_counts_by Own h b a own some = cond_both (may_slide h b a) Slide (Grow (need h b a)) (Counts b) (λ _. own refl) (λ _. own refl)
rule_counts_by Counted h b a own some =
    let grow = Grow (max (need h b a) (2 * b.size)) in
    let slide = cond (may_slide h b a) Slide grow in
    let widen = cond (leb (need h b a) b.size) (Widen (wanted h a)) slide in
    cond_both (leb 2 b.count) (MoveOut (max (wanted h a) (restored b.class))) widen (Counts b) (λ e. leb-true 2 b.count e) (λ e.
    let few = leb-false 2 b.count e in
    cond_both (leb (need h b a) b.size) (Widen (wanted h a)) slide (Counts b) (λ _. tt) (λ _.
    cond_both (may_slide h b a) Slide grow (Counts b) (λ _. omega arith) (λ _. omega arith)))

rule_counts : (t : Table) (i : ℕ) (h : WritableHandle) (b : Block) (a : ℕ) → Sound t → handle_at t i ≡ row.Writable h → Handled t h b → Counts b (rule_of h b a)
rule_counts t i h b a s is over =
    let some : 0 < b.count = omega (arith, subst (λ r. 0 < count_of (block_at t (block_of r))) is (held s i (ap blocked is)), ap count_of over.over) in
    let own : kind_own h.kind ≡ true → b.count ≡ 1 = λ q. sym (ap count_of over.over) ∙ subst (λ r. lone r ≡ true → count_of (block_at t (block_of r)) ≡ 1) is (s.fits i).alone q in
    cond_both (leb a (h.capacity - h.len)) Keep (rule_by h.kind h b a) (Counts b) (λ _. tt) (λ _. rule_counts_by h.kind h b a own some)

-- Room behind the bytes of a handle.

row_set : (t : Table) (i : ℕ) (r : HandleRow) → length t.handles ≡ 64 → i < 64 → handle_at (with_handle t i r) i ≡ r
row_set t i r rows l = get_or-set_same t.handles i r row.Free (omega arith)

-- the room x for the handle of row i, in a table that reaches no further than the memory; kept, if the table is sound
pub record RoomMade (found : List ℕ) (k : Book) (slid distances i : ℕ) (x : Room) (t : Table) (m : List ℕ) : Type 0 where
  pub here : handle_at t i ≡ row.Writable x.handle
  pub reaches : t.limit ≤ length found
  pub kept : Sound t → (marks : List ℕ) × Kept found t m k marks (slid + x.slid) distances

-- room that was made, or a refusal
abbrev pub RoomKept : List ℕ → Book → ℕ → ℕ → ℕ → Result Room Fault × Table × List ℕ → Type 0
RoomKept found k slid distances i (Ok x, t, m) = RoomMade found k slid distances i x t m
RoomKept found k slid distances i (Err e, t, m) = (marks : List ℕ) × Kept found t m k marks slid distances

abbrev pub ReclaimKept : List ℕ → Book → ℕ → ℕ → Option ℕ × Table × List ℕ → Type 0
ReclaimKept found k slid distances o = (marks : List ℕ) × Kept found o.1 o.2 k marks (slid + slid_by (calls.reclaimed (Ok o.0))) distances

module _ {found : List ℕ} {t : Table} {m : List ℕ} {k : Book} {marks : List ℕ} {slid distances : ℕ} (kept : Kept found t m k marks slid distances) (i : ℕ) (h : WritableHandle) (is : handle_at t i ≡ row.Writable h) (reaches : t.limit ≤ length m) where
  -- no byte slid
  unslid : {u : Table} {n marks' : List ℕ} → Kept found u n k marks' slid distances → Kept found u n k marks' (slid + 0) distances
  unslid after = retotalled after (slid + 0) distances (omega (arith, after.paid))

  -- the room x, whose handle was set in row i of the table u
  roomy : (x : Room) (u : Table) (n : List ℕ) → length u.handles ≡ 64 → u.limit ≡ t.limit → (Sound (with_handle u i (row.Writable x.handle)) → (marks' : List ℕ) × Kept found (with_handle u i (row.Writable x.handle)) n k marks' (slid + x.slid) distances) → RoomMade found k slid distances i x (with_handle u i (row.Writable x.handle)) n
  roomy x u n rows limit after =
      record {
        here = row_set u i (row.Writable x.handle) rows (live_row kept.sound i (ap handle_free is));
        reaches = omega (arith, kept.long);
        kept = after;
      }

  refused_room : (e : Fault) → RoomKept found k slid distances i (Err e, t, m)
  refused_room e = (marks, kept)

  module _ (b : Block) (over : Handled t h b) (a : ℕ) where
    carried_kept : (g : ℕ → ℕ → ℕ) (r : ReserveRule) → Enough h b a r → Counts b r → RoomKept found k slid distances i (carried t m g i h b r)
    carried_kept g Keep enough counts = record { here = is; reaches = omega (arith, kept.long); kept = (λ _. (marks, unslid kept)) }
    carried_kept g Slide enough single =
        roomy (record { slid = h.len; handle = moved_to h b.place b.size }) t _ kept.sound.rows refl (λ s. (_, slide_kept kept i is over reaches single enough.1 s))
    carried_kept g (Grow n) enough single =
        let size = g b.size n in
        both_after (RoomKept found k slid distances i) (need_check t n i) t m _ refused_room (λ _ _.
        both_after (RoomKept found k slid distances i) (place_check t size i) t m _ refused_room
        (λ p _. roomy (record { slid = 0; handle = grown_handle h b size p }) (with_block t h.block (block.Live (grown_block b size p))) _ kept.sound.rows refl (λ s. (_, unslid (grow_kept kept i is over reaches size p single s)))))
    carried_kept g (Widen c) enough counts =
        roomy (record { slid = 0; handle = moved_to h h.start c }) t m kept.sound.rows refl (λ s. (_, unslid (widen_kept kept i is over reaches c s)))
    carried_kept g (MoveOut n) enough shared =
        let left = detach t i in
        let rows : length left.handles ≡ 64 = ap (λ r. length (set (let_go t r).handles i row.Free)) is ∙ length-set t.handles i row.Free ∙ kept.sound.rows in
        both_after (RoomKept found k slid distances i) (block_row_check t i) t m _ refused_room (λ new free.
        let row-free = block_row_passed t i kept.sound new free in
        both_after (RoomKept found k slid distances i) (place_check t n i) t m _ refused_room
        (λ p _. roomy (record { slid = 0; handle = moved_out h new p n }) (with_block left new (block.Live (new_block b p n))) _ rows (ap (λ r. (let_go t r).limit) is) (λ s. (_, unslid (move_out_kept kept i is over reaches new n p shared row-free.0 row-free.1 s)))))

    reclaimed_kept : (r : ReserveRule) → Enough h b a r → Counts b r → Sound (reclaimed t m i h b r).1 → ReclaimKept found k slid distances (reclaimed t m i h b r)
    reclaimed_kept Keep enough counts s = (marks, unslid kept)
    reclaimed_kept Slide enough single s = (_, slide_kept kept i is over reaches single enough.1 s)
    reclaimed_kept (Grow n) enough counts s = (marks, unslid kept)
    reclaimed_kept (Widen c) enough counts s = (_, unslid (widen_kept kept i is over reaches c s))
    reclaimed_kept (MoveOut n) enough counts s = (marks, unslid kept)

  pub room_kept : (g : ℕ → ℕ → ℕ) (a : ℕ) → RoomKept found k slid distances i (room_of t m g i h a)
  room_kept g a =
      let b = block_in (block_at t h.block) in
      let over = handled t i h is kept.sound b refl in
      carried_kept b over a g (rule_of h b a) (rule_enough h b a) (rule_counts t i h b a kept.sound is over)

  pub reclaim_kept : (a : ℕ) → Sound (reclaim_of t m i h a).1 → ReclaimKept found k slid distances (reclaim_of t m i h a)
  reclaim_kept a =
      let b = block_in (block_at t h.block) in
      let over = handled t i h is kept.sound b refl in
      reclaimed_kept b over a (rule_of h b a) (rule_enough h b a) (rule_counts t i h b a kept.sound is over)

-- a table is sound if it is with a handle that shows more
pub sound_shorter : (t : Table) (i : ℕ) (h : WritableHandle) (n : ℕ) → i < 64 → handle_at t i ≡ row.Writable h → Sound (with_handle t i (row.Writable (longer h n))) → Sound t
sound_shorter t i h n l is s =
    let g = longer h n in
    let u = with_handle t i (row.Writable g) in
    let here = row_set t i (row.Writable g) (sym (length-set t.handles i (row.Writable g)) ∙ s.rows) l in
    let back : set (set t.handles i (row.Writable g)) i (row.Writable h) ≡ t.handles = set-set t.handles i (row.Writable g) (row.Writable h) ∙ ap (set t.handles i) (sym is) ∙ set-get_or t.handles i row.Free in
    let less : Within (handle_at u i) (row.Writable h) = subst (λ r. Within r (row.Writable h)) (sym here) (record { over = refl; on = refl; writes = refl; from = omega arith; to = omega arith }) in
    subst (λ hs. Sound (record { number = t.number; opened = t.opened; fixed = t.fixed; limit = t.limit; handles = hs; blocks = t.blocks })) back
    (sound_reshape u i (row.Writable h) s (ap handle_free here) less (λ q. ap lone here ∙ q) (λ _. omega (arith, ap start_of here, ap extent_of here)) (omega (arith, (s.fits i).shows, ap len_of here, ap extent_of here)))
