use Rattle.std.proofs.Common.{sym, ap, ◌∙◌}
use Rattle.table.proofs.Passing.{range_passed}
use Rattle.table.proofs.SoundSingle.{sound_after}
use Rattle.splitting.proofs.SplitsSound.{cut_off_sound}
use Rattle.splitting.specs.Splits.{cut_in_two, front}
use Rattle.splitting.proofs.split.split_off.Goals as goal

pub invariant_of-table : goal.invariant_of-table
invariant_of-table c =
    let t = c.args.table.now in
    let i = c.args.held.row in
    let h = c.args.held.handle in
    let at = c.args.at in
    let new = c.in_ok-new.new in
    let within = range_passed at h.capacity i (sym c.in_ok-check_range.ensures) in
    let parts = ap (λ x. cut_in_two t.rows i x new c.back.result) c.front.ensures ∙ ap (λ x. cut_in_two t.rows i (front h at) new x) c.back.ensures in
    record { sound = sound_after t _ _ (c.cut_in_two.ensures ∙ parts) (λ s. cut_off_sound t.rows i h s c.requires at new within (sym c.in_ok-new.ensures)) }
