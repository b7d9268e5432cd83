use Rattle.std.proofs.Common.{rules, FitsSigned}
use mir.Syntax.{w128}
use Rattle.std.proofs.Output.{has_written_of_eq}
use Rattle.showing.proofs.Amounts.{shown, shown_below_one}
use Rattle.showing.proofs.cents.CentsDisplay.fmt.Goals as goal

pub returns-then-whole-eq0-clause-writes : goal.returns-then-whole-eq0-clause-writes
returns-then-whole-eq0-clause-writes g c = λ plain ok.
    let fits : FitsSigned w128 c.args.self.now.0 = search rules in
    has_written_of_eq _ _ _ _ _ (rw (c.laid_out.ensures, c.laid_out-then-whole-eq0.ensures) (shown_below_one _ _ fits c.unsigned_abs.ensures.value c.if-self-lt0.true c.if-whole-eq0.true)) (c.write.ensures.writes plain ok)

pub returns-else-self-lt0-clause-writes : goal.returns-else-self-lt0-clause-writes
returns-else-self-lt0-clause-writes g c = λ plain ok.
    let fits : FitsSigned w128 c.args.self.now.0 = search rules in
    has_written_of_eq _ _ _ _ _ (rw (c.laid_out-else-self-lt0.ensures, c.laid_out-else-self-lt0-2.ensures) (shown _ _ fits c.unsigned_abs.ensures.value c.else-self-lt0.either)) (c.write-else-self-lt0.ensures.writes plain ok)
