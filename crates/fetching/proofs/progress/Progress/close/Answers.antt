use Rattle.std.proofs.Common.{sym, subst, rules}
use Rattle.fetching.proofs.Passing.{Passed, all_passed, last_passed}
use Rattle.fetching.proofs.progress.Progress.close.Goals as goal

pub returns : goal.returns
returns g c xs no_end under =
    let ys = g.I.Memory.bytes c.args.self.open_items.mem.now in
    let text = c.args.text.now in
    elim c.if-not-is_empty.branch [
      | goal.then-not-is_empty+in_ok-line+in_ok-enter w ↦ subst (Passed xs ys) (sym w.self-is) (last_passed xs ys c.args.self w.enter.new.self w.in_ok-line.line text w.in_ok-line.ensures.answer w.in_ok-enter.ensures.entered (search rules) no_end under)
      | goal.else-not-is_empty w ↦ subst (Passed xs ys) (sym w.self-is) (all_passed xs ys c.args.self text (search rules) under)
    ]
