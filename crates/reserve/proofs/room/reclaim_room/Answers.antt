use Rattle.std.proofs.Common.{ap, ◌∙◌}
use Rattle.rows.specs.declared.handle.Held.{Held}
use Rattle.table.proofs.SoundSingle.{sound_after}
use Rattle.reserve.specs.Rooms.{slide_of}
use Rattle.reserve.specs.declared.rules.ReserveRule.TheVariants.{Slide, Widen}
use Rattle.reserve.proofs.RoomsSound.{reclaimed_rule_sound}
use Rattle.reserve.proofs.room.reclaim_room.Goals as goal

pub invariant_of-table-in-Slide : goal.invariant_of-table-in-Slide
invariant_of-table-in-Slide g c =
    let t = c.args.table.now in
    let m = g.M.Memory.bytes c.args.mem.now in
    let b = c.seat_of-seat.result.block in
    record { sound = sound_after t _ _ (ap (λ r. r.1) c.slide.ensures.does ∙ ap (λ (x : Held). (slide_of t.rows m x.row x.handle b).1) c.seat_of-seat.ensures.held) (λ s. reclaimed_rule_sound t.rows m c.args.held.row c.args.held.handle b c.args.additional s c.requires.held c.seat_of-seat.ensures.block Slide c.in-Slide.ensures) }

pub invariant_of-table-in-Widen : goal.invariant_of-table-in-Widen
invariant_of-table-in-Widen g c =
    let t = c.args.table.now in
    let m = g.M.Memory.bytes c.args.mem.now in
    record { sound = sound_after t _ _ (ap (λ r. r.1) c.widen.ensures) (λ s. reclaimed_rule_sound t.rows m c.args.held.row c.args.held.handle c.seat_of-seat.result.block c.args.additional s c.requires.held c.seat_of-seat.ensures.block (Widen c.in-Widen.capacity) c.in-Widen.ensures) }
