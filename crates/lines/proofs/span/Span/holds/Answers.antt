use Rattle.std.proofs.Common.{◌+◌, ◌==◌, ℕ, bytes_eq, get_or, ap, ◌∙◌, arith, rules}
use Rattle.std.proofs.lemmas.Iterator.{YieldsList-from_range, YieldsList-from_slice, YieldsList-from_zip}
use Rattle.std.proofs.lemmas.Iterator.Search.{all_from_yields_List}
use Rattle.lines.proofs.Spans.{length_span, read_at_offsets, same_at_indices}
use Rattle.lines.proofs.span.Span.holds.Goals as goal
use borrow.Author.Tests.{tests}

pub returns : goal.returns
returns g c =
    let xs = g.M.Memory.bytes c.args.mem.now in
    let s = c.args.self in
    let n = c.within-count.result in
    let ys = c.args.wanted.now in
    let byte = λ (k : ℕ). get_or xs (s.start + k) 0 in
    all_from_yields_List (λ p. byte p.0 == p.1) c.all.new.self _ _ c.all.ensures.ran
    (YieldsList-from_zip (YieldsList-from_range 0 n n c.zip.ensures.first (omega arith)) (YieldsList-from_slice ys (cc)))
    (λ x b q k. search (rules, tests))
    ∙ same_at_indices byte 0 n ys (omega arith)
    ∙ ap (λ read. bytes_eq read ys) (read_at_offsets xs s n (omega (arith, length_span xs s)))
