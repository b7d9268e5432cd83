-- What a sound table tells of a writable handle, and of the way to a place that was found.
use Rattle.std.proofs.Common.{◌≡◌, ℕ, ◌+◌, ◌-◌, ◌*◌, ◌<◌, ◌≤◌, max, true, false, cond, leb, ◌⊎◌, Some, Ok, sym, refl, ap, ◌∙◌, subst, inl, inr, ⊎_elim, arith}
use Rattle.std.proofs.lemmas.Bool.{and_parts, cases_lt, cond_both, leb-true}
use Rattle.table.specs.Checks.{place_check}
use Rattle.table.specs.PlaceLaw.{place_for}
use Rattle.rows.specs.Rows.{block_free, block_in, block_of, blocked, count_of, kind_own, place_of, size_of}
use Rattle.table.specs.Soundness.{Fits, Placed, RoomAt, Sound}
use Rattle.table.specs.Tables.{block_at, handle_at}
use Rattle.rows.specs.Classes.{restored}
use Rattle.faults.specs.declared.Fault.TheVariants.{NoPlace}
use Rattle.rows.specs.declared.block.Block.{Block}
use Rattle.rows.specs.declared.block.BlockRow.{BlockRow}
use Rattle.rows.specs.declared.block.BlockRow.TheVariants.{Free, Live}
use Rattle.rows.specs.declared.handle.HandleRow.{HandleRow}
use Rattle.rows.specs.declared.handle.HandleRow.TheVariants.{Writable}
use Rattle.rows.specs.declared.handle.WritableHandle.{WritableHandle}
use Rattle.rows.specs.declared.handle.WritableKind.{WritableKind}
use Rattle.rows.specs.declared.handle.WritableKind.TheVariants.{Own, Counted}
use Rattle.table.specs.declared.table.Table.{Table}
use Rattle.table.proofs.LowestPlace.{place_found}
use Rattle.table.proofs.Passing.{ok_some}
use Rattle.table.proofs.SoundSteps as steps
use Rattle.reserve.specs.Rules.{may_slide, need, offset, rule_by, rule_of, wanted}
use Rattle.reserve.specs.declared.rules.ReserveRule.{ReserveRule}
use Rattle.reserve.specs.declared.rules.ReserveRule.TheVariants.{Keep, Slide, Grow, Widen, MoveOut}

-- a live row is its block's
live_is : (x : BlockRow) → block_free x ≡ false → x ≡ Live (block_in x)
live_is Free e = let z : ◌≡◌ {A = ℕ} 0 1 = cc in absurd (omega arith)
live_is (Live b) e = refl

-- a handle of a sound table, and its block
pub record Handled (t : Table) (h : WritableHandle) (b : Block) : Type 0 where
  pub over : block_at t h.block ≡ Live b
  pub shows : h.len ≤ h.capacity
  pub before : b.place ≤ h.start
  pub behind : h.start + h.capacity ≤ b.place + b.size
  pub inside : b.place + b.size ≤ t.limit
  pub small : t.limit ≤ 16777216
  pub known : h.block < 32
  pub counted : 0 < b.count
  pub alone : kind_own h.kind ≡ true → b.count ≡ 1
  pub classed : b.class ≤ 7

module _ (t : Table) (i : ℕ) (h : WritableHandle) (is : handle_at t i ≡ Writable h) (s : Sound t) where
  its_fit : Fits t.fixed (Writable h) (block_at t h.block)
  its_fit = subst (λ (r : HandleRow). Fits t.fixed r (block_at t (block_of r))) is (s.fits i)

  its_block : block_at t h.block ≡ Live (block_in (block_at t h.block))
  its_block =
      let live = subst (λ (r : HandleRow). block_free (block_at t (block_of r)) ≡ false) is (steps.block_live s i (ap blocked is)) in
      live_is (block_at t h.block) live

  pub handled : (b : Block) → b ≡ block_in (block_at t h.block) → Handled t h b
  handled b e =
      let over = its_block ∙ ap Live (sym e) in
      let fit = subst (Fits t.fixed (Writable h)) over its_fit in
      let placed = subst (Placed t.fixed t.limit) over (s.placed h.block) in
      record {
        over = over;
        shows = fit.shows;
        before = fit.from refl;
        behind = fit.to refl;
        inside = placed.high;
        small = s.small;
        known = fit.known refl;
        counted = omega (arith, steps.held s i (ap blocked is), ap count_of (ap (λ r. block_at t (block_of r)) is ∙ over));
        alone = fit.alone;
        classed = placed.classed;
      }

-- a place that was answered
pub placed_at : (t : Table) (n row p : ℕ) → place_check t n row ≡ Ok p → place_for t n ≡ Some p
placed_at t n row p e = ok_some (place_for t n) (NoPlace row n) p e

pub room_found : (t : Table) (n row p : ℕ) → Sound t → place_check t n row ≡ Ok p → RoomAt t n p
room_found t n row p s e = place_found t n p (λ b. (s.placed b).low) (placed_at t n row p e)

-- bytes of a block, copied into a place that was found, do not run into themselves
pub copy_apart : (t : Table) (n p to start len k : ℕ) (b : Block) → RoomAt t n p → block_at t k ≡ Live b → b.place ≤ start → start + len ≤ b.place + b.size → p ≤ to → to + len ≤ p + n → (to ≤ start) ⊎ (start + len ≤ to)
copy_apart t n p to start len k b room over low high from end =
    ⊎_elim
    (λ later. ⊎_elim
    (λ within. absurd (room.free k to (omega arith, omega arith) (subst (λ (x : BlockRow). (place_of x ≤ to) × (to < place_of x + size_of x)) (sym over) (omega arith, omega arith))))
    inr
    (cases_lt to (start + len)))
    inl
    (cases_lt start to)

-- what the rule that was chosen makes is enough
abbrev pub Enough : WritableHandle → Block → ℕ → ReserveRule → Type 0
Enough h b a Keep = a ≤ h.capacity - h.len
Enough h b a Slide = (wanted h a ≤ b.size) × (h.len ≤ offset h b)
Enough h b a (Grow n) = need h b a ≤ n
Enough h b a (Widen c) = (c ≡ wanted h a) × (need h b a ≤ b.size)
Enough h b a (MoveOut n) = wanted h a ≤ n

slide_enough : (h : WritableHandle) (b : Block) (a : ℕ) → may_slide h b a ≡ true → Enough h b a Slide
slide_enough h b a e =
    let k = and_parts (leb (wanted h a) b.size) (leb h.len (offset h b)) e in
    (leb-true (wanted h a) b.size k.0, leb-true h.len (offset h b) k.1)

rule_enough_by : (k : WritableKind) (h : WritableHandle) (b : Block) (a : ℕ) → Enough h b a (rule_by k h b a)
rule_enough_by Own h b a = cond_both (may_slide h b a) Slide (Grow (need h b a)) (Enough h b a) (slide_enough h b a) (λ _. omega arith)
rule_enough_by Counted h b a =
    let grow = Grow (max (need h b a) (2 * b.size)) in
    let slide = cond (may_slide h b a) Slide grow in
    let widen = cond (leb (need h b a) b.size) (Widen (wanted h a)) slide in
    cond_both (leb 2 b.count) (MoveOut (max (wanted h a) (restored b.class))) widen (Enough h b a) (λ _. omega arith) (λ _.
    cond_both (leb (need h b a) b.size) (Widen (wanted h a)) slide (Enough h b a) (λ e. (refl, leb-true (need h b a) b.size e)) (λ _.
    cond_both (may_slide h b a) Slide grow (Enough h b a) (slide_enough h b a) (λ _. omega arith)))

pub rule_enough : (h : WritableHandle) (b : Block) (a : ℕ) → Enough h b a (rule_of h b a)
rule_enough h b a =
    cond_both (leb a (h.capacity - h.len)) Keep (rule_by h.kind h b a) (Enough h b a) (λ e. leb-true a (h.capacity - h.len) e) (λ _. rule_enough_by h.kind h b a)
