-- Which rule makes room behind the bytes of a writable handle.
--   sum_64 a b          a sum that stops at the last 64-bit number
--   offset h b          how far the handle h starts behind the place of its block b
--   wanted h a          the bytes that h shows, and a more
--   need h b a          the same from the block's place on
--   may_slide h b a     the block has the wanted bytes, and the handle's are no longer than the way to its place
--   rule_by k h b a     the rule for a handle of the kind k without the spare bytes
--   rule_of h b a       the first rule that fits
use Rattle.std.specs.Prelude.{ℕ, ◌+◌, ◌-◌, ◌*◌, min, max, Bool, cond, ◌&&◌, nat_le}
use Rattle.rows.specs.Classes.{restored}
use Rattle.rows.specs.declared.block.Block.{Block}
use Rattle.rows.specs.declared.handle.WritableHandle.{WritableHandle}
use Rattle.rows.specs.declared.handle.WritableKind.{WritableKind}
use Rattle.rows.specs.declared.handle.WritableKind.TheVariants.{Own, Counted}
use Rattle.reserve.specs.declared.rules.ReserveRule.{ReserveRule}
use Rattle.reserve.specs.declared.rules.ReserveRule.TheVariants.{Keep, Slide, Grow, Widen, MoveOut}

abbrev pub sum_64 : ℕ → ℕ → ℕ
sum_64 a b = min (a + b) 18446744073709551615

abbrev pub offset : WritableHandle → Block → ℕ
offset h b = h.start - b.place

abbrev pub wanted : WritableHandle → ℕ → ℕ
wanted h a = sum_64 a h.len

abbrev pub need : WritableHandle → Block → ℕ → ℕ
need h b a = sum_64 (wanted h a) (offset h b)

abbrev pub may_slide : WritableHandle → Block → ℕ → Bool
may_slide h b a = nat_le (wanted h a) b.size && nat_le h.len (offset h b)

abbrev pub rule_by : WritableKind → WritableHandle → Block → ℕ → ReserveRule
rule_by Own h b a = cond (may_slide h b a) Slide (Grow (need h b a))
rule_by Counted h b a =
    cond (nat_le 2 b.count) (MoveOut (max (wanted h a) (restored b.class)))
    (cond (nat_le (need h b a) b.size) (Widen (wanted h a))
    (cond (may_slide h b a) Slide (Grow (max (need h b a) (2 * b.size)))))

abbrev pub rule_of : WritableHandle → Block → ℕ → ReserveRule
rule_of h b a = cond (nat_le a (h.capacity - h.len)) Keep (rule_by h.kind h b a)
