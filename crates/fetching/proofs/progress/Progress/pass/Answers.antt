use Rattle.std.proofs.Common.{ap, arith}
use Rattle.fetching.proofs.Passing.{line_passed}
use Rattle.fetching.proofs.progress.Progress.pass.Goals as goal

pub returns-clause-passed : goal.returns-clause-passed
returns-clause-passed g c =
    let found = c.in_ok-line.ensures.answer in
    let l = c.in_ok-line.line in
    line_passed (g.I.Memory.bytes c.args.self.now.open_items.mem.now) c.args.self.now c.enter.new.self l c.args.text.now _ found c.in_ok-enter.ensures.entered (omega (arith, ap (λ x. x.span.start) found, ap (λ x. x.span.length) found))
