use Rattle.std.proofs.Common.{◌≡◌, ap, ◌∙◌}
use Rattle.rows.specs.declared.handle.Held.{Held}
use Rattle.table.proofs.SoundSingle.{sound_after}
use Rattle.table.specs.Soundness.{Sound}
use Rattle.reserve.specs.Rooms.{carried, grow_of, move_out_of, slide_of}
use Rattle.reserve.specs.Rules.{rule_of}
use Rattle.reserve.specs.declared.rules.ReserveRule.{ReserveRule}
use Rattle.reserve.specs.declared.rules.ReserveRule.TheVariants.{Grow, MoveOut, Slide, Widen}
use Rattle.reserve.proofs.RoomsSound.{rule_sound}
use Rattle.reserve.proofs.room.make_room.Given as given
use Rattle.reserve.proofs.room.make_room.Goals as goal
use Rattle.reserve.proofs.room.make_room.Goals.{After-rule_for}

-- the rule that was chosen leaves a sound table
chosen : (g : given.Over) (c : After-rule_for g) (r : ReserveRule) → r ≡ rule_of c.args.held.handle c.seat_of-seat.result.block c.args.additional → Sound c.args.table.now.rows → Sound (carried c.args.table.now.rows (g.M.Memory.bytes c.args.mem.now) (g.G.Growth.answer c.args.growth.now) c.args.held.row c.args.held.handle c.seat_of-seat.result.block r).1
chosen g c r rule s = rule_sound c.args.table.now.rows _ _ c.args.held.row c.args.held.handle c.seat_of-seat.result.block c.args.additional s c.requires.held (g.met.G.Growth.enough c.args.growth.now) c.seat_of-seat.ensures.block r rule

pub invariant_of-table-in-Slide : goal.invariant_of-table-in-Slide
invariant_of-table-in-Slide g c =
    let t = c.args.table.now in
    let m = g.M.Memory.bytes c.args.mem.now in
    record { sound = sound_after t _ _ (ap (λ r. r.1) c.slide.ensures.does ∙ ap (λ (x : Held). (slide_of t.rows m x.row x.handle c.seat_of-seat.result.block).1) c.seat_of-seat.ensures.held) (chosen g (goal.at.invariant_of-table-in-Slide g c).After-rule_for Slide c.in-Slide.ensures) }

pub invariant_of-table-in-Grow : goal.invariant_of-table-in-Grow
invariant_of-table-in-Grow g c =
    let t = c.args.table.now in
    let m = g.M.Memory.bytes c.args.mem.now in
    record { sound = sound_after t _ _ (ap (λ r. r.1) c.grow.ensures.does ∙ ap (λ (x : Held). (grow_of t.rows m (g.G.Growth.answer c.args.growth.now) x.row x.handle c.seat_of-seat.result.block c.in-Grow.need).1) c.seat_of-seat.ensures.held) (chosen g (goal.at.invariant_of-table-in-Grow g c).After-rule_for (Grow c.in-Grow.need) c.in-Grow.ensures) }

pub invariant_of-table-in-Widen : goal.invariant_of-table-in-Widen
invariant_of-table-in-Widen g c =
    let t = c.args.table.now in
    record { sound = sound_after t _ _ (ap (λ r. r.1) c.widen.ensures) (chosen g (goal.at.invariant_of-table-in-Widen g c).After-rule_for (Widen c.in-Widen.capacity) c.in-Widen.ensures) }

pub invariant_of-table-in-MoveOut : goal.invariant_of-table-in-MoveOut
invariant_of-table-in-MoveOut g c =
    let t = c.args.table.now in
    let m = g.M.Memory.bytes c.args.mem.now in
    record { sound = sound_after t _ _ (ap (λ r. r.1) c.move_out.ensures.does ∙ ap (λ (x : Held). (move_out_of t.rows m x.row x.handle c.seat_of-seat.result.block c.in-MoveOut.size).1) c.seat_of-seat.ensures.held) (chosen g (goal.at.invariant_of-table-in-MoveOut g c).After-rule_for (MoveOut c.in-MoveOut.size) c.in-MoveOut.ensures) }
