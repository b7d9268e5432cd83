-- A sound table reclaims exactly what its blocks have.
use Rattle.std.proofs.Common.{◌≡◌, ℕ, List, Ok, Err, Decides, Option, Result, sym, refl, ap, ◌∙◌, subst, arith}
use Rattle.memory.specs.declared.fault.MemoryFault.{MemoryFault}
use Rattle.table.specs.Checks.{memory_check, or_refuse_with}
use Rattle.table.specs.Soundness.{Sound}
use Rattle.faults.specs.declared.Fault.{Fault}
use Rattle.rows.specs.declared.block.Block.{Block}
use Rattle.rows.specs.declared.handle.WritableHandle.{WritableHandle}
use Rattle.table.specs.declared.table.Table.{Table}
use Rattle.reserve.proofs.HandlesSound.{its_block, over}
use Rattle.reserve.proofs.Reclaims.{reclaims, reclaims_exactly}
use Rattle.writable.specs.Calls.{told, try_reclaim_of}
use Rattle.reserve.specs.Reclaiming.{Reclaimable}
use Rattle.reserve.specs.Rooms.{reclaim_of, reclaimed}
use Rattle.reserve.specs.Rules.{rule_of}
use Rattle.reserve.specs.declared.rules.ReserveRule.{ReserveRule}
use Rattle.reserve.specs.declared.rules.ReserveRule.TheVariants.{Keep, Slide, Grow, Widen, MoveOut}
use Rattle.table.proofs.Passing.{refused_ok}
use Rattle.ledger.proofs.Knowing.{known}
use Rattle.ledger.specs.BytesMut.{writable_check}
use Rattle.ledger.specs.Reclaims.{ReclaimsExactly, said_yes}
use Rattle.ledger.specs.declared.bytes_mut.BytesMut.{BytesMut}

module _ (t : Table) (m : List ℕ) (row : ℕ) where
  yes_by_rule : (h : WritableHandle) (b : Block) (r : ReserveRule) → said_yes (reclaimed t m row h b r).0 ≡ reclaims r
  yes_by_rule h b Keep = refl
  yes_by_rule h b Slide = refl
  yes_by_rule h b (Grow n) = refl
  yes_by_rule h b (Widen c) = refl
  yes_by_rule h b (MoveOut n) = refl

module _ (t : Table) (m : List ℕ) (f : ℕ → MemoryFault) (k : BytesMut) (a : ℕ) (s : Sound t) where
  behind_memory : (h : WritableHandle) (x : Option ℕ) (c : Result (Unit {0}) Fault) → (or_refuse_with c t m (λ _. told (reclaim_of t m k.row h a))).0 ≡ Ok x → x ≡ (reclaim_of t m k.row h a).0
  behind_memory h x (Ok u) e = let same : (reclaim_of t m k.row h a).0 ≡ x = cc in sym same
  behind_memory h x (Err z) e = refused_ok e

  exactly : (h : WritableHandle) (x : Option ℕ) → writable_check t k ≡ Ok h → (try_reclaim_of t m f k.row h a).0 ≡ Ok x → Decides (said_yes x) (Reclaimable h (its_block t h) a)
  exactly h x e q =
      let held = (known t k h e).held in
      let o = over t k.row h s held in
      subst (λ y. Decides y (Reclaimable h (its_block t h) a)) (sym (ap said_yes (behind_memory h x (memory_check t m f k.row) q) ∙ yes_by_rule t m k.row h (its_block t h) (rule_of h (its_block t h) a)))
      (reclaims_exactly h (its_block t h) a (omega (arith, o.inside, s.small)) o.counted o.alone)

  -- what try_reclaim answers to a known token
  pub reclaims_what_it_has : (g : WritableHandle) (r : Result (Option ℕ) Fault) → writable_check t k ≡ Ok g → r ≡ (try_reclaim_of t m f k.row g a).0 → ReclaimsExactly t k a r
  reclaims_what_it_has g r e q h x e' q' =
      let same : g ≡ h = cc in
      exactly h x e' (subst (λ y. (try_reclaim_of t m f k.row y a).0 ≡ Ok x) same (sym q ∙ q'))
