-- A table is sound in one way at most, so a struct may keep that under ∥ ∥₁ and get it back.
use Rattle.std.proofs.Common.{◌≡◌, ℕ, sym, subst}
use mathlib.Core.Bool.{Bool-set}
use mathlib.Core.Logic.{∥∥₁_elim}
use native.Mathlib.Bridge.{le_prop}
use native.Mathlib.Nat.{ℕ_set}
use std.HLevel.{⊥_prop}
use Rattle.table.specs.Soundness.{Fits, Apart, Placed, Sound}
use Rattle.rows.specs.declared.block.BlockRow.{BlockRow}
use Rattle.rows.specs.declared.handle.HandleRow.{HandleRow}
use Rattle.table.specs.declared.sound.SoundTable.{SoundTable}
use Rattle.table.specs.declared.table.Table.{Table}

fits_single : (fixed : ℕ) (h : HandleRow) (x : BlockRow) (a b : Fits fixed h x) → a ≡ b
fits_single fixed h x a b = λ i. record {
  shows = le_prop a.shows b.shows i;
  views = (λ l f. le_prop (a.views l f) (b.views l f) i);
  known = (λ q. le_prop (a.known q) (b.known q) i);
  from = (λ q. le_prop (a.from q) (b.from q) i);
  to = (λ q. le_prop (a.to q) (b.to q) i);
  alone = (λ q. ℕ_set _ _ (a.alone q) (b.alone q) i);
  whole = (λ q. ℕ_set _ _ (a.whole q) (b.whole q) i);
}

apart_single : (g h : HandleRow) (a b : Apart g h) → a ≡ b
apart_single g h a b = λ i. record { no = (λ p w l e x y. ⊥_prop (a.no p w l e x y) (b.no p w l e x y) i) }

placed_single : (fixed limit : ℕ) (x : BlockRow) (a b : Placed fixed limit x) → a ≡ b
placed_single fixed limit x a b = λ i. record {
  low = (λ l. le_prop (a.low l) (b.low l) i);
  high = le_prop a.high b.high i;
  counted = (λ l. le_prop (a.counted l) (b.counted l) i);
  classed = le_prop a.classed b.classed i;
}

pub sound_single : (t : Table) (a b : Sound t) → a ≡ b
sound_single t a b = λ i. record {
  small = le_prop a.small b.small i;
  ordered = le_prop a.ordered b.ordered i;
  rows = ℕ_set _ _ a.rows b.rows i;
  blocks = ℕ_set _ _ a.blocks b.blocks i;
  shut = (λ z k. Bool-set _ _ (a.shut z k) (b.shut z k) i);
  fits = (λ k. fits_single _ _ _ (a.fits k) (b.fits k) i);
  apart = (λ j k ne. apart_single _ _ (a.apart j k ne) (b.apart j k ne) i);
  one_type = (λ j k x y e. Bool-set _ _ (a.one_type j k x y e) (b.one_type j k x y e) i);
  counts = (λ k l. ℕ_set _ _ (a.counts k l) (b.counts k l) i);
  placed = (λ k. placed_single _ _ _ (a.placed k) (b.placed k) i);
  blocks_apart = (λ j k ne p x y. ⊥_prop (a.blocks_apart j k ne p x y) (b.blocks_apart j k ne p x y) i);
}

pub sound_opens : (t : Table) → ∥ Sound t ∥₁ → Sound t
sound_opens t s = ∥∥₁_elim s (sound_single t) (λ x. x)

-- what a sound table has become is sound, where what was made of it is
pub sound_after : (t : SoundTable) (after made : Table) → after ≡ made → (Sound t.rows → Sound made) → ∥ Sound after ∥₁
sound_after t after made e keeps = ∣ subst Sound (sym e) (keeps (sound_opens t.rows t.sound)) ∣₁
