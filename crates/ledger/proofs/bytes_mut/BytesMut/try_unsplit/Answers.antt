use Rattle.std.proofs.Common.{ap}
use Rattle.table.proofs.SoundSingle.{sound_after}
use Rattle.splitting.proofs.JoinsSound.{try_unsplit_sound}
use Rattle.ledger.proofs.bytes_mut.BytesMut.try_unsplit.Goals as goal

pub invariant_of-ledger : goal.invariant_of-ledger
invariant_of-ledger c =
    let t = c.args.ledger.now.table in
    let x = c.in_ok-first.first in
    let y = c.in_ok-first.second in
    let k = c.in_ok-first.ensures in
    record { sound = sound_after t _ _ (ap (λ r. r.1) c.try_unsplit.ensures) (λ s. try_unsplit_sound t.rows x.row y.row x.handle y.handle s k.held k.other_held k.two) }
