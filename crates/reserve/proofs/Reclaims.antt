-- The room is reclaimed exactly where the block has it.
use Rattle.std.proofs.Common.{◌≡◌, ℕ, ◌-◌, ◌<◌, ◌≤◌, Bool, true, false, cond, leb, Decides, refl, ap, inl, inr, ⊎_elim, arith}
use Rattle.std.proofs.lemmas.Bool.{and_from, and_parts, both_ways, cond_both, false≢true, le-leb, leb-false, leb-true}
use Rattle.rows.specs.Rows.{kind_own}
use Rattle.rows.specs.declared.block.Block.{Block}
use Rattle.rows.specs.declared.handle.WritableHandle.{WritableHandle}
use Rattle.rows.specs.declared.handle.WritableKind.{WritableKind}
use Rattle.rows.specs.declared.handle.WritableKind.TheVariants.{Own, Counted}
use Rattle.reserve.specs.Reclaiming.{Reclaimable, Slides}
use Rattle.reserve.specs.Rules.{may_slide, need, offset, rule_by, rule_of, wanted}
use Rattle.reserve.specs.declared.rules.ReserveRule.{ReserveRule}
use Rattle.reserve.specs.declared.rules.ReserveRule.TheVariants.{Keep, Slide, Grow, Widen, MoveOut}

-- whether a rule is carried out by reclaiming
abbrev pub reclaims : ReserveRule → Bool
reclaims Keep = true
reclaims Slide = true
reclaims (Grow n) = false
reclaims (Widen c) = true
reclaims (MoveOut n) = false

module _ (h : WritableHandle) (b : Block) (a : ℕ) (small : b.size ≤ 16777216) where
  may_slide_from : Slides h b a → may_slide h b a ≡ true
  may_slide_from s = and_from (leb (wanted h a) b.size) (leb h.len (offset h b)) (le-leb (wanted h a) b.size (omega arith)) (le-leb h.len (offset h b) s.1)

  slides_from : may_slide h b a ≡ true → Slides h b a
  slides_from e =
      let k = and_parts (leb (wanted h a) b.size) (leb h.len (offset h b)) e in
      (omega (arith, leb-true (wanted h a) b.size k.0), leb-true h.len (offset h b) k.1)

  -- what is told by a rule that is one of two
  either : (t : Bool) (r q : ReserveRule) → (t ≡ true → Decides (reclaims r) (Reclaimable h b a)) → (t ≡ false → Decides (reclaims q) (Reclaimable h b a)) → Decides (reclaims (cond t r q)) (Reclaimable h b a)
  either t r q first second = cond_both t r q (λ x. Decides (reclaims x) (Reclaimable h b a)) first second

  says_yes : Reclaimable h b a → Decides true (Reclaimable h b a)
  says_yes p = (λ _. p, λ _. refl)

  says_no : (Reclaimable h b a → ⊥) → Decides false (Reclaimable h b a)
  says_no no' = (λ z. absurd (false≢true z), λ p. absurd (no' p))

  module _ (short : h.capacity - h.len < a) where
    own_exactly : b.count ≡ 1 → kind_own h.kind ≡ true → Decides (reclaims (rule_by Own h b a)) (Reclaimable h b a)
    own_exactly single own =
        either (may_slide h b a) Slide _
        (λ e. says_yes (inr (single, inl (slides_from e))))
        (λ e. says_no (⊎_elim (λ k. omega arith) (λ p. ⊎_elim (λ s. both_ways (may_slide h b a) e (may_slide_from s)) (λ w. both_ways (kind_own h.kind) w.0 own) p.1)))

    counted_exactly : 0 < b.count → kind_own h.kind ≡ false → Decides (reclaims (rule_by Counted h b a)) (Reclaimable h b a)
    counted_exactly some counted =
        either (leb 2 b.count) (MoveOut _) _
        (λ e. let more = leb-true 2 b.count e in says_no (⊎_elim (λ k. omega arith) (λ p. omega (arith, p.0))))
        (λ e.
        let single : b.count ≡ 1 = omega (arith, leb-false 2 b.count e) in
        either (leb (need h b a) b.size) (Widen _) _
        (λ fits. says_yes (inr (single, inr (counted, omega (arith, leb-true (need h b a) b.size fits)))))
        (λ tight.
        let long = leb-false (need h b a) b.size tight in
        either (may_slide h b a) Slide _
        (λ e. says_yes (inr (single, inl (slides_from e))))
        (λ e. says_no (⊎_elim (λ k. omega arith) (λ p. ⊎_elim (λ s. both_ways (may_slide h b a) e (may_slide_from s)) (λ w. omega (arith, w.1)) p.1)))))

    by_kind : (k : WritableKind) → h.kind ≡ k → 0 < b.count → (kind_own h.kind ≡ true → b.count ≡ 1) → Decides (reclaims (rule_by k h b a)) (Reclaimable h b a)
    by_kind Own e some alone = own_exactly (alone (ap kind_own e)) (ap kind_own e)
    by_kind Counted e some alone = counted_exactly some (ap kind_own e)

  pub reclaims_exactly : 0 < b.count → (kind_own h.kind ≡ true → b.count ≡ 1) → Decides (reclaims (rule_of h b a)) (Reclaimable h b a)
  reclaims_exactly some alone =
      either (leb a (h.capacity - h.len)) Keep _
      (λ e. says_yes (inl (leb-true a (h.capacity - h.len) e)))
      (λ e. by_kind (leb-false a (h.capacity - h.len) e) h.kind refl some alone)
