use Rattle.std.proofs.Common.{sym, ap, ◌∙◌}
use Rattle.table.proofs.SoundSingle.{sound_opens}
use Rattle.writable.specs.Calls.{try_reclaim_of}
use Rattle.ledger.proofs.ReclaimsExactly.{reclaims_what_it_has}
use Rattle.ledger.proofs.bytes_mut.BytesMut.try_reclaim.Goals as goal

-- the promise is for a token that the ledger knows
pub returns-clause-reclaims_exactly : goal.returns-clause-reclaims_exactly
returns-clause-reclaims_exactly g c =
    let t = c.args.ledger.now.table in
    let m = g.M.Memory.bytes c.args.mem.now in
    let f = g.M.Memory.fault c.args.mem.now in
    let x = c.in_ok-held in
    let answer = ap (λ r. r.0) c.try_reclaim.ensures.does ∙ ap (λ i. (try_reclaim_of t.rows m f i x.held.handle c.args.additional).0) x.ensures.row in
    reclaims_what_it_has t.rows m f c.args.self.now c.args.additional (sound_opens t.rows t.sound) x.held.handle c.try_reclaim.result (sym x.ensures.answer) answer
