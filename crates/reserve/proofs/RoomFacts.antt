-- What the room that was made holds.
use Rattle.std.proofs.Common.{◌≡◌, ℕ, ◌+◌, ◌-◌, ◌≤◌, List, length, drop, Ok, Err, Result, sym, refl, ap, ◌∙◌, subst, arith, length-drop}
use Rattle.std.proofs.lemmas.List.Edits.{length-paste}
use Rattle.std.proofs.lemmas.Bool.Decides.{nat_tests}
use Rattle.table.specs.Checks.{block_row_check, or_refuse_with, place_check}
use Rattle.rows.specs.Rows.{block_in}
use Rattle.table.specs.Tables.{block_at}
use Rattle.faults.specs.declared.Fault.{Fault}
use Rattle.rows.specs.declared.block.Block.{Block}
use Rattle.rows.specs.declared.handle.WritableHandle.{WritableHandle}
use Rattle.table.specs.declared.table.Table.{Table}
use Rattle.table.proofs.LowestPlace.{place_inside}
use Rattle.reserve.specs.Rooms.{carried, copied, need_check, room_of}
use Rattle.reserve.specs.Rules.{offset, rule_of}
use Rattle.reserve.specs.declared.room.Room.{Room}
use Rattle.reserve.specs.declared.rules.ReserveRule.{ReserveRule}
use Rattle.reserve.specs.declared.rules.ReserveRule.TheVariants.{Keep, Slide, Grow, Widen, MoveOut}
use Rattle.reserve.proofs.HandleFacts.{Enough, Handled, placed_at, rule_enough}

-- a handle with room for a bytes more, inside the working part, and a memory as long as it was
pub record Roomy (t : Table) (m : List ℕ) (h : WritableHandle) (a : ℕ) (x : Room) (m' : List ℕ) : Type 0 where
  pub shows : x.handle.len ≡ h.len
  pub wide : h.len + a ≤ x.handle.capacity
  pub inside : x.handle.start + x.handle.capacity ≤ t.limit
  pub long : length m' ≡ length m

-- an answer that is no refusal
ok_is : {A : Type 0} {x y : A} → ◌≡◌ {A = Result A Fault} (Ok x) (Ok y) → x ≡ y
ok_is e = cc

not_refused : {A B : Type 0} {x : A} {f : Fault} → ◌≡◌ {A = Result A Fault} (Ok x) (Err f) → B
not_refused e = let z : ◌≡◌ {A = ℕ} 0 1 = cc in absurd (omega arith)

-- what a call that was not refused went on with
passed : {A B : Type 0} (r : Result A Fault) (t : Table) (m : List ℕ) (rest : A → (Result B Fault × Table × List ℕ)) (y : B) (t' : Table) (m' : List ℕ) → ◌≡◌ {A = Result B Fault × Table × List ℕ} (Ok y, t', m') (or_refuse_with r t m rest) → (x : A) × (r ≡ Ok x) × (◌≡◌ {A = Result B Fault × Table × List ℕ} (Ok y, t', m') (rest x))
passed (Ok x) t m rest y t' m' e = (x, refl, e)
passed (Err f) t m rest y t' m' e = not_refused (ap (λ r. r.0) e)

module _ (t : Table) (m : List ℕ) (g : ℕ → ℕ → ℕ) (grows : (size n : ℕ) → n ≤ g size n) (i : ℕ) (h : WritableHandle) (b : Block) (a : ℕ) (w : Handled t h b) (whole : t.limit ≤ length m) where
  copied_long : (to : ℕ) → to + h.len ≤ t.limit → length (copied m h to) ≡ length m
  copied_long to fits = length-paste m to (drop h.start m) h.len (omega arith) (omega (arith, length-drop h.start m))

  -- what came is what was made
  as_made : (x y : Room) (t' u : Table) (m' n' : List ℕ) → ◌≡◌ {A = Result Room Fault × Table × List ℕ} (Ok x, t', m') (Ok y, u, n') → Roomy t m h a y n' → Roomy t m h a x m'
  as_made x y t' u m' n' e r =
      let same : x ≡ y = ok_is (ap (λ v. v.0) e) in
      let bytes : m' ≡ n' = ap (λ v. v.2) e in
      subst (λ (v : Room). Roomy t m h a v m') (sym same) (subst (Roomy t m h a y) (sym bytes) r)

  carried_roomy : (r : ReserveRule) → Enough h b a r → (x : Room) (t' : Table) (m' : List ℕ) → ◌≡◌ {A = Result Room Fault × Table × List ℕ} (Ok x, t', m') (carried t m g i h b r) → Roomy t m h a x m'
  carried_roomy Keep enough x t' m' e = as_made x _ t' _ m' m e (record { shows = refl; wide = omega arith; inside = omega arith; long = refl })
  carried_roomy Slide enough x t' m' e = as_made x _ t' _ m' _ e (record { shows = refl; wide = omega arith; inside = omega arith; long = copied_long b.place (omega arith) })
  carried_roomy (Grow n) enough x t' m' e =
      let needed = passed (need_check t n i) t m _ x t' m' e in
      let small : n ≤ t.limit - t.fixed = need_met needed.1 in
      let placed = passed (place_check t (g b.size n) i) t m _ x t' m' needed.2 in
      let inside = place_inside t (g b.size n) placed.0 (placed_at t (g b.size n) i placed.0 placed.1) in
      let more = grows b.size n in
      as_made x _ t' _ m' _ placed.2 (record { shows = refl; wide = omega arith; inside = omega arith; long = copied_long (placed.0 + offset h b) (omega arith) })
    where
      need_met : {y : Unit {0}} → need_check t n i ≡ Ok y → n ≤ t.limit - t.fixed
      need_met e = grind (arith, nat_tests)
  carried_roomy (Widen c) enough x t' m' e = as_made x _ t' _ m' m e (record { shows = refl; wide = omega arith; inside = omega arith; long = refl })
  carried_roomy (MoveOut n) enough x t' m' e =
      let new = passed (block_row_check t i) t m _ x t' m' e in
      let placed = passed (place_check t n i) t m _ x t' m' new.2 in
      let inside = place_inside t n placed.0 (placed_at t n i placed.0 placed.1) in
      as_made x _ t' _ m' _ placed.2 (record { shows = refl; wide = omega arith; inside = omega arith; long = copied_long placed.0 (omega arith) })

  pub room_roomy : (x : Room) (t' : Table) (m' : List ℕ) → b ≡ block_in (block_at t h.block) → ◌≡◌ {A = Result Room Fault × Table × List ℕ} (Ok x, t', m') (room_of t m g i h a) → Roomy t m h a x m'
  room_roomy x t' m' same e =
      carried_roomy (rule_of h b a) (rule_enough h b a) x t' m' (e ∙ ap (λ c. carried t m g i h c (rule_of h c a)) (sym same))
