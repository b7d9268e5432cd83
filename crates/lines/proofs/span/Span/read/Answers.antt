use Rattle.std.proofs.Common.{◌≡◌, ◌+◌, List, ℕ, IfOk, get_or, vec_items, subst, arith, rules}
use Rattle.std.proofs.lemmas.Iterator.{items_from_collect, YieldsList-from_map, YieldsList-from_range}
use Rattle.lines.proofs.Spans.{length_span, read_at_offsets}
use Rattle.lines.proofs.span.Span.read.Goals as goal

pub returns : goal.returns
returns g c =
    let xs = g.M.Memory.bytes c.args.mem.now in
    let s = c.args.self in
    let n = c.within.result in
    subst (λ (ys : List ℕ). IfOk c.collect.result (λ found. vec_items found ≡ ys)) (read_at_offsets xs s n (omega (arith, length_span xs s)))
    (items_from_collect _ c.collect.ensures.ran (YieldsList-from_map _ (λ k. get_or xs (s.start + k) 0) (YieldsList-from_range 0 n n c.map.ensures.source (omega arith)) c.map.ensures.closure (λ x r q k. search rules)))
