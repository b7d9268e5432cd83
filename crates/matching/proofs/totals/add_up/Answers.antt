use Rattle.std.proofs.Common.{arith}
use Rattle.std.proofs.lemmas.Grind.{common_steps}
use Rattle.matching.proofs.totals.add_up.Goals as goal

pub loop-entry-preserved : goal.loop-entry-preserved
loop-entry-preserved c = record {
  totals = grind (arith, common_steps);
  few = c.added-totals.ensures.few c.loop-entry.entry-index c.loop-entry.invariant.few;
}
