use Rattle.table.proofs.SoundSingle.{sound_after}
use Rattle.writable.proofs.CallsSound.{truncate_sound}
use Rattle.ledger.proofs.bytes_mut.BytesMut.truncate.Goals as goal

pub invariant_of-ledger : goal.invariant_of-ledger
invariant_of-ledger c =
    let t = c.args.ledger.now.table in
    let x = c.in_ok-held.held in
    record { sound = sound_after t _ _ c.truncate.ensures (λ s. truncate_sound t.rows x.row x.handle c.args.len s c.in_ok-held.ensures.held) }
