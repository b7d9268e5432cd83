use Rattle.std.proofs.Common.{refl, arith}
use Rattle.table.proofs.SoundSingle.{sound_opens}
use Rattle.reserve.proofs.HandleFacts.{handled}
use Rattle.ledger.proofs.bytes_mut.BytesMut.read.Goals as goal

pub read-requires : goal.read-requires
read-requires g c =
    let t = c.args.ledger.now.table in
    let w = handled t.rows c.in_ok-held.held.row c.in_ok-held.held.handle c.in_ok-held.ensures.held (sound_opens t.rows t.sound) _ refl in
    omega arith
