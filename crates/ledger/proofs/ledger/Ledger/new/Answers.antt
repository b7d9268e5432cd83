use Rattle.table.proofs.SoundSteps.{sound_new}
use Rattle.ledger.proofs.ledger.Ledger.new.Goals as goal

pub invariant_of-result : goal.invariant_of-result
invariant_of-result c = record { sound = ∣ sound_new ∣₁ }
