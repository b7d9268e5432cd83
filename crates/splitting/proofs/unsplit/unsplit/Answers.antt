use Rattle.std.proofs.Common.{ap}
use Rattle.splitting.proofs.JoinsSound.{taken_over_sound, try_unsplit_sound}
use Rattle.table.proofs.SoundSingle.{sound_after}
use Rattle.splitting.proofs.unsplit.unsplit.Goals as goal

pub invariant_of-table : goal.invariant_of-table
invariant_of-table g c =
    let t = c.args.table.now in
    record { sound = sound_after t _ _ c.take_over.ensures (λ s. taken_over_sound t.rows c.args.first.row c.args.other.row c.args.first.handle c.args.other.handle s c.requires.held c.requires.other_held c.requires.two) }

pub invariant_of-table-2 : goal.invariant_of-table-2
invariant_of-table-2 g c =
    let t = c.args.table.now in
    record { sound = sound_after t _ _ (ap (λ r. r.1) c.try_unsplit.ensures) (λ s. try_unsplit_sound t.rows c.args.first.row c.args.other.row c.args.first.handle c.args.other.handle s c.requires.held c.requires.other_held c.requires.two) }
