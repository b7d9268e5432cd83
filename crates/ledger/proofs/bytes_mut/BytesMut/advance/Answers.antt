use Rattle.std.proofs.Common.{refl, ap, arith}
use Rattle.table.proofs.SoundSingle.{sound_after, sound_opens}
use Rattle.reserve.proofs.HandleFacts.{handled}
use Rattle.writable.proofs.CallsSound.{advance_sound}
use Rattle.ledger.proofs.bytes_mut.BytesMut.advance.Goals as goal

pub advance-requires : goal.advance-requires
advance-requires c =
    let t = c.args.ledger.now.table in
    let x = c.in_ok-held.held in
    let w = handled t.rows x.row x.handle c.in_ok-held.ensures.held (sound_opens t.rows t.sound) _ refl in
    record { small = omega arith; shows = w.shows }

pub invariant_of-ledger : goal.invariant_of-ledger
invariant_of-ledger c =
    let t = c.args.ledger.now.table in
    let x = c.in_ok-held.held in
    record { sound = sound_after t _ _ (ap (λ r. r.1) c.advance.ensures) (λ s. advance_sound t.rows x.row x.handle c.args.count s c.in_ok-held.ensures.held) }
