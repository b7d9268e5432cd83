-- There is room for the other's bytes behind those of the first, and it lies beside them.
use Rattle.std.proofs.Common.{◌≡◌, ℕ, ◌+◌, ◌≤◌, ◌≢◌, ◌⊎◌, List, length, Ok, Result, sym, refl, ap, ◌∙◌, subst, arith}
use Rattle.faults.specs.declared.Fault.{Fault}
use Rattle.reserve.proofs.HandlesSound.{its_block, over}
use Rattle.reserve.proofs.RoomFacts.{room_roomy}
use Rattle.reserve.proofs.RoomOthers.{room_elsewhere}
use Rattle.reserve.proofs.RoomsSound.{room_enough, room_sound}
use Rattle.reserve.specs.Rooms.{room_of}
use Rattle.reserve.specs.declared.room.Room.{Room}
use Rattle.rows.specs.Rows.{extent_of, start_of, writable}
use Rattle.rows.specs.declared.handle.HandleRow.TheVariants.{Writable}
use Rattle.rows.specs.declared.handle.WritableHandle.{WritableHandle}
use Rattle.table.proofs.Positions.{written_beside}
use Rattle.table.specs.Soundness.{Sound}
use Rattle.table.specs.Tables.{handle_at}
use Rattle.table.specs.declared.table.Table.{Table}

-- where the other's bytes go to, once there is room
pub record Beside (limit : ℕ) (m n : List ℕ) (h g x : WritableHandle) : Type 0 where
  pub shows : x.len ≡ h.len
  pub target : x.start + x.len + g.len ≤ limit
  pub source : g.start + g.len ≤ limit
  pub small : limit ≤ 16777216
  pub long : length n ≡ length m
  pub apart : (x.start + x.len ≤ g.start) ⊎ (g.start + g.len ≤ x.start + x.len)

module _ (t : Table) (m : List ℕ) (r : ℕ → ℕ → ℕ) (enough : (size n : ℕ) → n ≤ r size n) (i j : ℕ) (h g : WritableHandle) (s : Sound t) (is : handle_at t i ≡ Writable h) (other : handle_at t j ≡ Writable g) (ne : j ≢ i) (whole : t.limit ≤ length m) where
  pub room_beside : (x : Room) (u : Table) (n : List ℕ) → ◌≡◌ {A = Result Room Fault × Table × List ℕ} (Ok x, u, n) (room_of t m r i h g.len) → Beside t.limit m n h g x.handle
  room_beside x u n e =
      let table = ap (λ o. o.1) e in
      let sound : Sound u = subst Sound (sym table) (room_sound t m r i h g.len s is enough) in
      let made = room_enough t m r i h g.len s is enough x (sym (ap (λ o. o.0) e)) in
      let here : handle_at u i ≡ Writable x.handle = ap (λ v. handle_at v i) table ∙ made.stands in
      let there : handle_at u j ≡ Writable g = ap (λ v. handle_at v j) table ∙ room_elsewhere t m r i h is j ne g.len ∙ other in
      let before = over t j g s other in
      let facts = room_roomy t m r enough i h (its_block t h) g.len (over t i h s is) whole x u n refl e in
      let start = ap start_of here in
      let extent = ap extent_of here in
      record {
        shows = facts.shows;
        target = omega arith;
        source = omega arith;
        small = s.small;
        long = facts.long;
        apart = subst (λ k. (x.handle.start + x.handle.len ≤ k) ⊎ (k + g.len ≤ x.handle.start + x.handle.len)) (ap start_of there)
            (written_beside sound i j (x.handle.start + x.handle.len) g.len ne (ap writable here) (omega arith) (omega arith) (omega (arith, ap extent_of there)));
      }
