use Rattle.std.proofs.Common.{Err, refl, ap, ◌∙◌}
use Rattle.std.proofs.lemmas.Result.{err_from_is_err_and}
use Rattle.memory.specs.Answers.{handed_up}
use Rattle.memory.proofs.Answering.{handed_up_is}
use Rattle.memory.proofs.Windowed.{put_refused, put_passed, unmoved_refused, moved_passed, window_put, window_fault_put}
use Rattle.memory.proofs.window.WindowMemory.put.Goals as goal

pub returns-in_err-lower : goal.returns-in_err-lower
returns-in_err-lower g c =
    let w = c.args.self.now in
    let xs = g.M.Memory.bytes w.below in
    let f = g.M.Memory.fault w.below in
    let p = c.args.position in
    let b = c.args.byte in
    let r = err_from_is_err_and c.from_residual.result c.from_residual.ensures.1 in
    let below = unmoved_refused w.start w.length xs f p b _ c.in_err-lower.ensures in
    record {
      answer = r.1 ∙ ap Err r.2 ∙ put_refused w.start w.length xs f p _ c.in_err-lower.ensures;
      memory = window_put w.start w.length xs p b xs (g.M.Memory.short w.below) below;
      faults = refl;
      start = refl;
      length = refl;
      below = below;
      below_faults = refl;
    }

pub returns : goal.returns
returns g c =
    let w = c.args.self.now in
    let xs = g.M.Memory.bytes w.below in
    let f = g.M.Memory.fault w.below in
    let p = c.args.position in
    let b = c.args.byte in
    let s = c.in_ok-lower.lower in
    let short = g.M.Memory.short w.below in
    let below = c.put.ensures.memory ∙ moved_passed w.start w.length xs f p s short c.in_ok-lower.ensures b in
    record {
      answer = handed_up_is _ _ c.map_err.ensures.cases ∙ ap handed_up c.put.ensures.answer ∙ put_passed w.start w.length xs f p s short c.in_ok-lower.ensures;
      memory = window_put w.start w.length xs p b _ short below;
      faults = window_fault_put w.start w.length xs p b _ short below f _ c.put.ensures.faults;
      start = refl;
      length = refl;
      below = below;
      below_faults = c.put.ensures.faults;
    }
