use Rattle.std.proofs.Common.{◌≡◌, ℕ, List, ◌++◌}
use Rattle.std.specs.Slice.Iter.{chunks_rest}
use Rattle.fetching.specs.Fetches.{NoEnd}
use Rattle.fetching.specs.Knowing.{Knows}
use Rattle.fetching.specs.Passages.{Underway}
use Rattle.law.specs.Views.{view}
use Rattle.fetching.proofs.reconciling.reconcile.Given as goal

-- what the handle shows, and then what is left of the source, is still to come, and a token that was known still is
abbrev pub invariant-loop-chunk : goal.invariant-loop-chunk
invariant-loop-chunk g l =
    let ys = g.I.Memory.bytes l.open_items in
    let shown = view l.ledger.table.rows (g.M.Memory.bytes l.mem) l.token in
    let first = view l.initial.ledger.table.rows (g.M.Memory.bytes l.initial.mem) l.token in
    record {
      memory : l.progress.open_items.mem.now ≡ l.open_items;
      no_end : NoEnd shown;
      underway : (xs : List ℕ) → Underway xs ys l.initial.progress (first ++ l.source) → Underway xs ys l.progress (shown ++ chunks_rest l.chunk-iterator);
      known : Knows l.fn.ledger.table.rows l.token → Knows l.ledger.table.rows l.token;
    }
