use Rattle.std.proofs.Common.{ap}
use Rattle.table.proofs.Passing.{opened_from}
use Rattle.table.proofs.SoundSingle.{sound_after}
use Rattle.writable.proofs.CallsSound.{with_capacity_sound}
use Rattle.ledger.proofs.bytes_mut.BytesMut.with_capacity.Goals as goal

pub invariant_of-ledger : goal.invariant_of-ledger
invariant_of-ledger c =
    let t = c.args.ledger.now.table in
    let opened = opened_from t.rows _ _ c.in_ok-check_open.ensures in
    record { sound = sound_after t _ _ (ap (λ r. r.1) c.with_capacity.ensures) (λ s. with_capacity_sound t.rows c.args.capacity s opened) }
