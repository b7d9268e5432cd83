-- The rules for making room as a table, in their order, and that the rule taken is the first that fits.
--   Row                  a condition and the rule that it leads to
--   rules h b a          the seven rules for a bytes more behind those of h, over the block b
--   first_of rows        the rule of the first row whose condition holds
--   FirstThatFits h b a   the rule taken is the first that fits, over a block that has a handle
use Rattle.std.specs.Prelude.{◌≡◌, ℕ, ◌-◌, ◌*◌, ◌<◌, max, Bool, true, cond, ◌&&◌, List, [], ◌∷◌, ◌==◌, nat_le}
use Rattle.rows.specs.Classes.{restored}
use Rattle.rows.specs.Rows.{kind_own}
use Rattle.rows.specs.declared.block.Block.{Block}
use Rattle.rows.specs.declared.handle.WritableHandle.{WritableHandle}
use Rattle.reserve.specs.Rules.{may_slide, need, rule_of, wanted}
use Rattle.reserve.specs.declared.rules.ReserveRule.{ReserveRule}
use Rattle.reserve.specs.declared.rules.ReserveRule.TheVariants.{Keep, Slide, Grow, Widen, MoveOut}

pub record Row : Type 0 where
  pub fits : Bool
  pub rule : ReserveRule

abbrev pub row : Bool → ReserveRule → Row
row fits rule = record { fits = fits; rule = rule }

abbrev pub rules : WritableHandle → Block → ℕ → List Row
rules h b a =
    row (nat_le a (h.capacity - h.len)) Keep
    ∷ row (kind_own h.kind && may_slide h b a) Slide
    ∷ row (kind_own h.kind) (Grow (need h b a))
    ∷ row (b.count == 1 && nat_le (need h b a) b.size) (Widen (wanted h a))
    ∷ row (b.count == 1 && may_slide h b a) Slide
    ∷ row (b.count == 1) (Grow (max (need h b a) (2 * b.size)))
    ∷ row true (MoveOut (max (wanted h a) (restored b.class)))
    ∷ []

abbrev pub first_of : List Row → ReserveRule
first_of [] = Keep
first_of (r ∷ rs) = cond r.fits r.rule (first_of rs)

abbrev pub FirstThatFits : WritableHandle → Block → ℕ → Type 0
FirstThatFits h b a = 0 < b.count → rule_of h b a ≡ first_of (rules h b a)
