use Rattle.std.proofs.Common.{ap}
use Rattle.table.proofs.Passing.{opened_from}
use Rattle.table.proofs.SoundSingle.{sound_after}
use Rattle.writable.proofs.CallsSound.{from_sound}
use Rattle.ledger.proofs.bytes_mut.BytesMut.from.Goals as goal

pub invariant_of-ledger : goal.invariant_of-ledger
invariant_of-ledger g c =
    let t = c.args.ledger.now.table in
    let opened = opened_from t.rows _ _ c.in_ok-check_open.ensures in
    record { sound = sound_after t _ _ (ap (λ r. r.1) c.from.ensures.does) (λ s. from_sound t.rows (g.M.Memory.bytes c.args.mem.now) (g.M.Memory.fault c.args.mem.now) c.args.source.now s opened) }
