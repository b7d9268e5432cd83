use Rattle.std.proofs.Common.{[], ◌∷◌, ◌++◌, length, vec_items, refl, sym, ap, ◌∙◌, subst, arith, length-append}
use Rattle.lines.specs.Lines.{line_end}
use Rattle.law.specs.Views.{view}
use Rattle.fetching.specs.Fetches.{NoEnd}
use Rattle.fetching.specs.Passages.{Carries}
use Rattle.fetching.proofs.Cutting.{line_fetched, none_fetched}
use Rattle.fetching.proofs.Passing.{carried_all, carried_on}
use Rattle.fetching.proofs.reconciling.pass_lines.Goals as goal

pub loop-text-init : goal.loop-text-init
loop-text-init g c = record { memory = refl; passed = λ xs later under. under; known = λ knows. knows }

pub loop-text-smaller : goal.loop-text-smaller
loop-text-smaller g c =
    let m = g.M.Memory.bytes c.args.mem.now in
    let k = c.args.token.now in
    let v = view c.loop-text.ledger.table.rows m k in
    let v' = view c.next_line.new.ledger.table.rows m k in
    let text = vec_items c.in-Some.text in
    let cut = line_fetched v v' c.in-Some.text c.in-Some.is c.in_ok-text.ensures.fetched in
    omega (arith, ap length cut.rejoined, length-append text (line_end ∷ v'))

pub loop-text-preserved : goal.loop-text-preserved
loop-text-preserved g c =
    let m = g.M.Memory.bytes c.args.mem.now in
    let k = c.args.token.now in
    let u = view c.args.ledger.now.table.rows m k in
    let v = view c.loop-text.ledger.table.rows m k in
    let v' = view c.next_line.new.ledger.table.rows m k in
    let text = vec_items c.in-Some.text in
    let cut = line_fetched v v' c.in-Some.text c.in-Some.is c.in_ok-text.ensures.fetched in
    let read = c.as_slice.result.now in
    let p = c.loop-text.progress in
    let q = c.pass.new.self in
    let same = c.loop-text.invariant.memory in
    let passes = subst (λ m. NoEnd read → Carries (g.I.Memory.bytes m) p (read ++ line_end ∷ []) q []) same c.in_ok-pass.ensures.passed in
    record {
      memory = c.pass.ensures.memory ∙ same;
      passed = carried_on (g.I.Memory.bytes c.args.progress.now.open_items.mem.now) c.args.progress.now p q u v text read v' c.loop-text.invariant.passed cut c.as_slice.ensures.value passes;
      known = λ knows. c.in_ok-text.ensures.known (c.loop-text.invariant.known knows);
    }

pub returns : goal.returns
returns g c =
    let m = g.M.Memory.bytes c.args.mem.now in
    let k = c.args.token.now in
    let u = view c.args.ledger.now.table.rows m k in
    let v = view c.loop-text.ledger.table.rows m k in
    let v' = view c.next_line.new.ledger.table.rows m k in
    let none = none_fetched v v' c.in_default.is c.in_ok-text.ensures.fetched in
    record {
      fetched = subst NoEnd (sym none.1) none.0;
      memory = c.loop-text.invariant.memory;
      passed = carried_all (g.I.Memory.bytes c.args.progress.now.open_items.mem.now) c.args.progress.now c.loop-text.progress u v v' c.loop-text.invariant.passed none.1;
      known = λ knows. c.in_ok-text.ensures.known (c.loop-text.invariant.known knows);
    }
