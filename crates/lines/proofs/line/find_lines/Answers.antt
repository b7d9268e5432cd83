use Rattle.lines.proofs.LineLaws.{cut_into_lines}
use Rattle.lines.proofs.line.find_lines.Goals as goal

pub returns-in_err-push-clause-law : goal.returns-in_err-push-clause-law
returns-in_err-push-clause-law g c = cut_into_lines (g.M.Memory.bytes c.args.mem.now)

pub returns-in_err-push-2-clause-law : goal.returns-in_err-push-2-clause-law
returns-in_err-push-2-clause-law g c = cut_into_lines (g.M.Memory.bytes c.args.mem.now)

pub returns-clause-law : goal.returns-clause-law
returns-clause-law g c = cut_into_lines (g.M.Memory.bytes c.args.mem.now)
