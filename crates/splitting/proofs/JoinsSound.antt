-- Joining two handles leaves a sound table.
use Rattle.std.proofs.Common.{◌≡◌, ℕ, ◌+◌, ◌<◌, ◌≤◌, Bool, true, false, cond, not, eqb, ◌≢◌, List, Ok, Err, Result, sym, refl, ap, ◌∙◌, subst, inl, inr, arith}
use Rattle.faults.specs.declared.Fault.{Fault}
use Rattle.memory.specs.declared.fault.MemoryFault.{MemoryFault}
use Rattle.reserve.proofs.HandlesSound.{over, row_known, sound_cut}
use Rattle.reserve.proofs.RoomOthers.{room_elsewhere}
use Rattle.reserve.proofs.RoomsSound.{Roomy, room_enough, room_sound}
use Rattle.reserve.specs.Rooms.{room_of}
use Rattle.reserve.specs.declared.room.Room.{Room}
use Rattle.rows.specs.Rows.{block_of, blocked, extent_of, handle_free, kind_own, start_of, writable}
use Rattle.rows.specs.declared.handle.HandleRow.TheVariants.{Free, Writable}
use Rattle.rows.specs.declared.handle.WritableHandle.{WritableHandle}
use Rattle.std.proofs.lemmas.List.{get_or-set_other}
use Rattle.std.proofs.lemmas.Bool.{and_parts, cases_lt, cond_both, eqb-false, eqb-true}
use Rattle.table.proofs.Passing.{both_after}
use Rattle.table.proofs.SoundShared.{Unites, detached_elsewhere, detached_here, sound_passed_on, sound_united}
use Rattle.table.proofs.SoundSteps.{fits_free, sound_detach}
use Rattle.table.specs.Checks.{memory_check}
use Rattle.table.specs.Soundness.{Sound}
use Rattle.table.specs.Tables.{detach, handle_at, with_handle}
use Rattle.table.specs.declared.table.Table.{Table}
use Rattle.writable.specs.Calls.{longer}
use Rattle.splitting.specs.Joins.{appended, counted, follows, joined_by, joint_of, merged, taken_over, try_unsplit_by, try_unsplit_of, unsplit_of}
use Rattle.splitting.specs.declared.unsplit.Joint.{Joint}
use Rattle.splitting.specs.declared.unsplit.Joint.TheVariants.{Nothing, Adjacent, Apart}

-- the other begins where the bytes that the first shows end, over the same block
pub record Follows (h g : WritableHandle) : Type 0 where
  pub shared : kind_own h.kind ≡ false
  pub on : g.block ≡ h.block
  pub from : g.start ≡ h.start + h.len

not_true : (b : Bool) → not b ≡ true → b ≡ false
not_true true e = sym e
not_true false e = refl

pub following : (h g : WritableHandle) → follows h g ≡ true → Follows h g
following h g e =
    let a = and_parts (counted h) _ e in
    let b = and_parts (counted g) _ a.1 in
    let c = and_parts (eqb h.block g.block) _ b.1 in
    record {
      shared = not_true (kind_own h.kind) a.0;
      on = sym (eqb-true h.block g.block c.0);
      from = sym (eqb-true (h.start + h.len) g.start c.1);
    }

-- The handle h of row i, and g of row j.

module _ (t : Table) (i j : ℕ) (h g : WritableHandle) (s : Sound t) (is : handle_at t i ≡ Writable h) (other : handle_at t j ≡ Writable g) (ne : i ≢ j) where
  other_live : handle_free (handle_at t j) ≡ false
  other_live = ap handle_free other

  module _ (some : 0 < g.capacity) (w : Follows h g) where
    -- a handle that another follows shows all that it holds
    pub shows_all : h.len ≡ h.capacity
    shows_all =
        let first = over t i h s is in
        elim (cases_lt h.len h.capacity) [
          | inl less ↦ absurd ((s.apart i j ne).no g.start (ap writable is) (ap blocked other) (ap block_of is ∙ sym w.on ∙ sym (ap block_of other))
              (omega (arith, w.from, ap start_of is), omega (arith, w.from, ap start_of is, ap extent_of is))
              (omega (arith, ap start_of other), omega (arith, ap start_of other, ap extent_of other)))
          | inr all ↦ omega (arith, first.shows)
        ]

    unites : Unites t i j (Writable (merged h g))
    unites =
        let first = over t i h s is in
        let second = over t j g s other in
        let end = w.from in
        let start-i = ap start_of is in
        let extent-i = ap extent_of is in
        let start-j = ap start_of other in
        let extent-j = ap extent_of other in
        record {
          over = refl;
          on = sym (ap block_of is);
          writes = sym (ap writable is);
          shared = w.shared;
          shows = omega arith;
          from = omega arith;
          to = omega (arith, shows_all);
          parts = (λ p x. elim (cases_lt p (h.start + h.capacity)) [ inl l ↦ inl (omega arith, omega arith) | inr m ↦ inr (omega (arith, shows_all), omega (arith, shows_all)) ]);
        }

    pub merged_sound : Sound (with_handle (detach t j) i (Writable (merged h g)))
    merged_sound =
        sound_united t i j (Writable (merged h g)) s ne (ap blocked is) (ap blocked other) (ap block_of other ∙ w.on ∙ sym (ap block_of is)) unites

  pub try_unsplit_sound : Sound (try_unsplit_of t i h j g).1
  try_unsplit_sound =
      cond_both (eqb g.capacity 0) Nothing (cond (follows h g) Adjacent Apart) (λ x. Sound (try_unsplit_by x t i h j g).1)
      (λ _. sound_detach t j s other_live)
      (λ some. cond_both (follows h g) Adjacent Apart (λ x. Sound (try_unsplit_by x t i h j g).1)
      (λ e. let nonzero = eqb-false g.capacity 0 some in merged_sound (omega arith) (following h g e))
      (λ _. s))

  pub taken_over_sound : Sound (taken_over t i j g)
  taken_over_sound =
      let u = detach t i in
      let su = sound_detach t i s (ap handle_free is) in
      let here = detached_here t i (omega (arith, row_known t i h s is, s.rows)) in
      let there = detached_elsewhere t i j (λ e. ne (sym e)) ∙ other in
      subst (λ r. Sound (with_handle (with_handle u j Free) i r)) there
      (sound_passed_on u i j Free su (row_known t i h s is) (ap handle_free here) (ap handle_free there) refl (fits_free u.fixed _))

  module _ (m : List ℕ) (r : ℕ → ℕ → ℕ) (enough : (size n : ℕ) → n ≤ r size n) where
    pub appended_sound : (o : Result Room Fault × Table × List ℕ) → Sound o.1 → ((x : Room) → o.0 ≡ Ok x → Roomy o.1 i h g.len x.handle) → handle_at o.1 j ≡ Writable g → Sound (appended o i j g).1
    appended_sound (Ok x, u, n) su roomy there =
        let has = roomy x refl in
        let longer-sound = sound_cut u i x.handle su has.stands x.handle.start (x.handle.len + g.len) x.handle.capacity (omega arith) (omega arith) refl in
        sound_detach _ j longer-sound (ap handle_free (get_or-set_other u.handles i j (Writable (longer x.handle g.len)) Free (λ e. ne (sym e)) ∙ there))
    appended_sound (Err e, u, n) su roomy there = su

    joined_sound : Sound (joined_by (joint_of h g) t m r i h j g).1
    joined_sound =
        let Joined = λ (x : Joint). Sound (joined_by x t m r i h j g).1 in
        cond_both (eqb g.capacity 0) Nothing (cond (follows h g) Adjacent Apart) Joined
        (λ _. sound_detach t j s other_live)
        (λ some. cond_both (follows h g) Adjacent Apart Joined
        (λ e. let nonzero = eqb-false g.capacity 0 some in merged_sound (omega arith) (following h g e))
        (λ _. appended_sound (room_of t m r i h g.len) (room_sound t m r i h g.len s is enough) (room_enough t m r i h g.len s is enough) (room_elsewhere t m r i h is j (λ e. ne (sym e)) g.len ∙ other)))

    pub unsplit_sound : (f : ℕ → MemoryFault) → Sound (unsplit_of t m f r i h j g).1
    unsplit_sound f =
        both_after (λ o. Sound o.1) (memory_check t m f i) t m _ (λ _. s) (λ _ _.
        cond_both (eqb h.len 0) (Ok 0, taken_over t i j g, m) (joined_by (joint_of h g) t m r i h j g) (λ o. Sound o.1) (λ _. taken_over_sound) (λ _. joined_sound))
