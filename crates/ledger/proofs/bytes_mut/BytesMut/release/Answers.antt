use Rattle.table.proofs.SoundSingle.{sound_after}
use Rattle.writable.proofs.CallsSound.{release_sound}
use Rattle.ledger.proofs.bytes_mut.BytesMut.release.Goals as goal

pub invariant_of-ledger : goal.invariant_of-ledger
invariant_of-ledger c =
    let t = c.args.ledger.now.table in
    record { sound = sound_after t _ _ c.detach.ensures (λ s. release_sound t.rows c.in-Ok.held.row c.in-Ok.held.handle s c.in-Ok.ensures.held) }
