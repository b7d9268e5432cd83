use Rattle.table.proofs.SoundSingle.{sound_after}
use Rattle.table.proofs.SoundSteps.{sound_opened}
use Rattle.ledger.proofs.ledger.Ledger.open.Goals as goal

pub invariant_of-self : goal.invariant_of-self
invariant_of-self c =
    let t = c.args.self.now.table in
    record { sound = sound_after t _ _ c.open.ensures (λ s. sound_opened t.rows c.args.number c.args.fixed c.args.limit s c.if-self.false c.if-fixed-limit.false c.if-limit-gt-MOST.false) }
