-- Making room leaves a sound table, in which the handle has that room.
use Rattle.std.proofs.Common.{◌≡◌, ℕ, ◌+◌, ◌-◌, ◌<◌, ◌≤◌, true, false, cond, leb, List, IfOk, Ok, Err, Result, sym, refl, ap, ◌∙◌, subst, arith}
use Rattle.std.proofs.lemmas.Result.{IfOk-at_ok}
use Rattle.std.proofs.lemmas.Bool.{and_parts, cond_both, leb-false, leb-true, true≢false}
use Rattle.table.specs.Checks.{block_row_check, place_check}
use Rattle.rows.specs.Rows.{block_in, kind_own}
use Rattle.table.specs.Soundness.{Sound}
use Rattle.table.specs.Tables.{block_at, handle_at, let_go, with_handle}
use Rattle.faults.specs.declared.Fault.{Fault}
use Rattle.rows.specs.declared.block.Block.{Block}
use Rattle.rows.specs.declared.block.BlockRow.TheVariants.{Live}
use Rattle.rows.specs.declared.handle.HandleRow.TheVariants.{Writable}
use Rattle.rows.specs.declared.handle.WritableHandle.{WritableHandle}
use Rattle.rows.specs.declared.handle.WritableKind.{WritableKind}
use Rattle.rows.specs.declared.handle.WritableKind.TheVariants.{Own, Counted}
use Rattle.table.specs.declared.table.Table.{Table}
use Rattle.reserve.proofs.HandlesSound.{its_block, over, put_stands, row_known, sound_grown, sound_moved, sound_shifted}
use Rattle.table.proofs.Passing.{block_row_passed, both_after, passed, place_passed}
use Rattle.reserve.specs.Rooms.{carried, grow_of, grown_block, grown_handle, move_out_of, moved_out, moved_to, need_check, new_block, reclaim_of, reclaimed, room_of}
use Rattle.reserve.specs.Rules.{may_slide, need, rule_by, rule_of, wanted}
use Rattle.reserve.specs.declared.room.Room.{Room}
use Rattle.reserve.specs.declared.rules.ReserveRule.{ReserveRule}
use Rattle.reserve.specs.declared.rules.ReserveRule.TheVariants.{Keep, Slide, Grow, Widen, MoveOut}

-- The rule that is chosen.

-- the rule makes room for a bytes, and the handle has its block to itself where the rule takes that
abbrev Suits : WritableKind → WritableHandle → Block → ℕ → ReserveRule → Type 0
Suits k h b a Keep = a ≤ h.capacity - h.len
Suits k h b a Slide = (wanted h a ≤ b.size) × (b.count ≡ 1)
Suits k h b a (Grow n) = (need h b a ≤ n) × (b.count ≡ 1)
Suits k h b a (Widen c) = (c ≡ wanted h a) × (need h b a ≤ b.size) × (b.count ≡ 1) × (kind_own k ≡ false)
Suits k h b a (MoveOut n) = wanted h a ≤ n

module _ (h : WritableHandle) (b : Block) (a : ℕ) where
  or_slide_suits : (k : WritableKind) (r : ReserveRule) → b.count ≡ 1 → Suits k h b a r → Suits k h b a (cond (may_slide h b a) Slide r)
  or_slide_suits k r single suits = cond_both (may_slide h b a) Slide r (Suits k h b a) (λ e. (leb-true (wanted h a) b.size (and_parts _ _ e).0, single)) (λ _. suits)

  rule_by_suits : (k : WritableKind) → 0 < b.count → (kind_own k ≡ true → b.count ≡ 1) → Suits k h b a (rule_by k h b a)
  rule_by_suits Own some alone = or_slide_suits Own (Grow _) (alone refl) (omega arith, alone refl)
  rule_by_suits Counted some alone =
      cond_both (leb 2 b.count) (MoveOut _) _ (Suits Counted h b a) (λ _. omega arith) (λ few.
      let single : b.count ≡ 1 = omega (arith, leb-false 2 b.count few) in
      cond_both (leb (need h b a) b.size) (Widen _) _ (Suits Counted h b a)
      (λ e. (refl, leb-true (need h b a) b.size e, single, refl))
      (λ _. or_slide_suits Counted (Grow _) single (omega arith, single)))

  rule_suits : 0 < b.count → (kind_own h.kind ≡ true → b.count ≡ 1) → Suits h.kind h b a (rule_of h b a)
  rule_suits some alone = cond_both (leb a (h.capacity - h.len)) Keep _ (Suits h.kind h b a) (leb-true a (h.capacity - h.len)) (λ _. rule_by_suits h.kind some alone)

-- The rules within the block.

module _ (t : Table) (i : ℕ) (h : WritableHandle) (a : ℕ) (s : Sound t) (is : handle_at t i ≡ Writable h) where
  suits : Suits h.kind h (its_block t h) a (rule_of h (its_block t h) a)
  suits = let w = over t i h s is in rule_suits h (its_block t h) a w.counted w.alone

  slide_sound : Suits h.kind h (its_block t h) a Slide → Sound (with_handle t i (Writable (moved_to h (its_block t h).place (its_block t h).size)))
  slide_sound e =
      let w = over t i h s is in
      sound_shifted t i h s is (its_block t h).place h.len (its_block t h).size (omega arith) e.1 (omega arith) (omega arith) (λ _. refl)

  widen_sound : (c : ℕ) → Suits h.kind h (its_block t h) a (Widen c) → Sound (with_handle t i (Writable (moved_to h h.start c)))
  widen_sound c e =
      let w = over t i h s is in
      sound_shifted t i h s is h.start h.len c (omega arith) e.2 w.before (omega arith) (λ q. absurd (true≢false (sym q ∙ e.3)))

module _ (t : Table) (m : List ℕ) (i : ℕ) (h : WritableHandle) (a : ℕ) (s : Sound t) (is : handle_at t i ≡ Writable h) where
  reclaimed_sound : (r : ReserveRule) → Suits h.kind h (its_block t h) a r → Sound (reclaimed t m i h (its_block t h) r).1
  reclaimed_sound Keep e = s
  reclaimed_sound Slide e = slide_sound t i h a s is e
  reclaimed_sound (Grow n) e = s
  reclaimed_sound (Widen c) e = widen_sound t i h a s is c e
  reclaimed_sound (MoveOut n) e = s

  pub reclaim_sound : Sound (reclaim_of t m i h a).1
  reclaim_sound = reclaimed_sound (rule_of h (its_block t h) a) (suits t i h a s is)

-- Every rule.

-- the handle k stands in row i, shows as many bytes as h, and has room for a more
pub record Roomy (t : Table) (i : ℕ) (h : WritableHandle) (a : ℕ) (k : WritableHandle) : Type 0 where
  pub stands : handle_at t i ≡ Writable k
  pub len : k.len ≡ h.len
  pub enough : h.len + a ≤ k.capacity

-- what making room leaves in a table that divides the positions below limit
record Leaves (limit i : ℕ) (h : WritableHandle) (a : ℕ) (r : Result Room Fault × Table × List ℕ) : Type 0 where
  sound : Sound r.1
  limited : r.1.limit ≡ limit
  roomy : IfOk r.0 (λ room. Roomy r.1 i h a room.handle)

module _ (t : Table) (m : List ℕ) (g : ℕ → ℕ → ℕ) (i : ℕ) (h : WritableHandle) (a : ℕ) (s : Sound t) (is : handle_at t i ≡ Writable h) (enough : (size need : ℕ) → need ≤ g size need) where
  refused_leaves : (e : Fault) → Leaves t.limit i h a (Err e, t, m)
  refused_leaves e = record { sound = s; limited = refl; roomy = tt }

  put_leaves : (u : Table) (k : WritableHandle) (slid : ℕ) (after : List ℕ) → Sound (with_handle u i (Writable k)) → u.limit ≡ t.limit → k.len ≡ h.len → h.len + a ≤ k.capacity → Leaves t.limit i h a (Ok (record { slid = slid; handle = k }), with_handle u i (Writable k), after)
  put_leaves u k slid after sound limited len wide =
      record { sound = sound; limited = limited; roomy = record { stands = put_stands u i (Writable k) (row_known t i h s is) sound; len = len; enough = wide } }

  grow_leaves : (n : ℕ) → Suits h.kind h (its_block t h) a (Grow n) → Leaves t.limit i h a (grow_of t m g i h (its_block t h) n)
  grow_leaves n e =
      let b = its_block t h in
      let size = g b.size n in
      let w = over t i h s is in
      both_after (Leaves t.limit i h a) (need_check t n i) t m _ refused_leaves (λ x checked.
      both_after (Leaves t.limit i h a) (place_check t size i) t m _ refused_leaves (λ p found.
      let held = leb-true n (t.limit - t.fixed) (passed _ tt x _ checked) in
      let room = place_passed t i s size p found in
      let more = enough b.size n in
      let least = e.0 in
      put_leaves _ (grown_handle h b size p) 0 _
      (sound_grown t i h s is (grown_block b size p) (grown_handle h b size p) (record { shows = omega arith; from = omega arith; to = omega arith; single = e.1; classed = w.classed }) room e.1 refl)
      refl refl (omega arith)))

  move_out_leaves : (n : ℕ) → Suits h.kind h (its_block t h) a (MoveOut n) → Leaves t.limit i h a (move_out_of t m i h (its_block t h) n)
  move_out_leaves n e =
      let b = its_block t h in
      let w = over t i h s is in
      both_after (Leaves t.limit i h a) (block_row_check t i) t m _ refused_leaves (λ new vacant.
      both_after (Leaves t.limit i h a) (place_check t n i) t m _ refused_leaves (λ p found.
      let free = block_row_passed t i s new vacant in
      let room = place_passed t i s n p found in
      put_leaves _ (moved_out h new p n) 0 _
      (sound_moved t i h s is (new_block b p n) (moved_out h new p n) (record { shows = omega arith; from = omega arith; to = refl; single = refl; classed = w.classed }) room free.0 free.1)
      (ap (λ r. (let_go t r).limit) is) refl (omega arith)))

  carried_leaves : (r : ReserveRule) → Suits h.kind h (its_block t h) a r → Leaves t.limit i h a (carried t m g i h (its_block t h) r)
  carried_leaves Keep e = let w = over t i h s is in record { sound = s; limited = refl; roomy = record { stands = is; len = refl; enough = omega arith } }
  carried_leaves Slide e = let w = over t i h s is in put_leaves t _ _ _ (slide_sound t i h a s is e) refl refl (omega arith)
  carried_leaves (Grow n) e = grow_leaves n e
  carried_leaves (Widen c) e = let w = over t i h s is in put_leaves t _ _ _ (widen_sound t i h a s is c e) refl refl (omega arith)
  carried_leaves (MoveOut n) e = move_out_leaves n e

  room_leaves : Leaves t.limit i h a (room_of t m g i h a)
  room_leaves = carried_leaves (rule_of h (its_block t h) a) (suits t i h a s is)

  pub room_sound : Sound (room_of t m g i h a).1
  room_sound = room_leaves.sound

  -- the handle that is answered stands in the row and has the room
  pub room_enough : (room : Room) → (room_of t m g i h a).0 ≡ Ok room → Roomy (room_of t m g i h a).1 i h a room.handle
  room_enough room e = IfOk-at_ok (λ x. Roomy (room_of t m g i h a).1 i h a x.handle) e room_leaves.roomy

-- the rule that was chosen, carried out
pub rule_sound : (t : Table) (m : List ℕ) (g : ℕ → ℕ → ℕ) (i : ℕ) (h : WritableHandle) (b : Block) (a : ℕ) (s : Sound t) → handle_at t i ≡ Writable h → ((size need : ℕ) → need ≤ g size need) → block_at t h.block ≡ Live b → (r : ReserveRule) → r ≡ rule_of h b a → Sound (carried t m g i h b r).1
rule_sound t m g i h b a s is enough over r rule =
    let room = subst (λ (c : Block). Sound (carried t m g i h c (rule_of h c a)).1) (ap block_in over) (room_sound t m g i h a s is enough) in
    subst (λ (q : ReserveRule). Sound (carried t m g i h b q).1) (sym rule) room

-- the same where no rule is carried out that takes a growth rule or a new block
pub reclaimed_rule_sound : (t : Table) (m : List ℕ) (i : ℕ) (h : WritableHandle) (b : Block) (a : ℕ) (s : Sound t) → handle_at t i ≡ Writable h → block_at t h.block ≡ Live b → (r : ReserveRule) → r ≡ rule_of h b a → Sound (reclaimed t m i h b r).1
reclaimed_rule_sound t m i h b a s is over r rule =
    let room = subst (λ (c : Block). Sound (reclaimed t m i h c (rule_of h c a)).1) (ap block_in over) (reclaim_sound t m i h a s is) in
    subst (λ (q : ReserveRule). Sound (reclaimed t m i h b q).1) (sym rule) room
