use Rattle.std.proofs.Common.{Err, ap, ◌∙◌}
use Rattle.std.proofs.lemmas.Result.{err_from_is_err_and}
use Rattle.memory.specs.Answers.{handed_up}
use Rattle.memory.proofs.Answering.{handed_up_is}
use Rattle.memory.proofs.Windowed.{read_refused, read_passed}
use Rattle.memory.proofs.window.WindowMemory.read.Goals as goal

pub returns-in_err-lower : goal.returns-in_err-lower
returns-in_err-lower g c =
    let w = c.args.self.now in
    let r = err_from_is_err_and c.from_residual.result c.from_residual.ensures.1 in
    r.1 ∙ ap Err r.2
    ∙ read_refused w.start w.length (g.M.Memory.bytes w.below) (g.M.Memory.fault w.below) c.args.position _ c.in_err-lower.ensures

pub returns : goal.returns
returns g c =
    let w = c.args.self.now in
    handed_up_is _ _ c.map_err.ensures.cases ∙ ap handed_up c.read.ensures
    ∙ read_passed w.start w.length (g.M.Memory.bytes w.below) (g.M.Memory.fault w.below) c.args.position c.in_ok-lower.lower (g.M.Memory.short w.below) c.in_ok-lower.ensures
