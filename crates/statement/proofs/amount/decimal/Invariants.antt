use Rattle.std.proofs.Common.{◌≡◌, take, pos}
use Rattle.statement.specs.Amounts.{decimal}
use Rattle.statement.proofs.amount.decimal.Given as goal

abbrev pub invariant-loop-digit : goal.invariant-loop-digit
invariant-loop-digit l = l.value ≡ pos (decimal (take l.digit-index l.digits))
