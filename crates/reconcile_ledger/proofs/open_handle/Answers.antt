use Rattle.table.proofs.SoundSingle.{sound_opens}
use Rattle.fetching.proofs.Knowing.{known_made}
use Rattle.reconcile_ledger.proofs.open_handle.Goals as goal

pub returns : goal.returns
returns c =
    let opened = c.open.new.self in
    known_made opened.table.rows c.with_capacity.new.ledger.table.rows (sound_opens opened.table.rows opened.table.sound) _ c.in_ok-with_capacity.field-0 c.in_ok-with_capacity.ensures
