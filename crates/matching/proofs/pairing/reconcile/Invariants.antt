use Rattle.std.proofs.Common.{◌≡◌, ◌++◌, drop, vec_items}
use Rattle.lines.specs.Lines.{lines_of}
use Rattle.matching.specs.Pairings.{entries_from, entries_of, invoices_after, settled_invoices}
use Rattle.matching.proofs.pairing.reconcile.Given as goal

-- what is left of the lines gives the entries that are still to come, and the invoices at the end
abbrev pub invariant-loop-index : goal.invariant-loop-index
invariant-loop-index g l =
    let xs = g.S.Memory.bytes l.statement in
    let ys = g.I.Memory.bytes l.open_items in
    let is = vec_items l.items.invoices in
    record {
      memory : l.items.mem.now ≡ l.open_items;
      entries : vec_items l.entries ++ entries_from xs ys l.index is (drop l.index (lines_of xs)) ≡ entries_of xs ys;
      invoices : invoices_after xs ys l.index is (drop l.index (lines_of xs)) ≡ settled_invoices xs ys;
    }
