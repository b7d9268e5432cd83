use Rattle.std.proofs.Common.{◌≡◌, vec_items, arith}
use Rattle.std.proofs.lemmas.Grind.{common_steps}
use Rattle.matching.specs.Pairings.{entries_of, settled_invoices}
use Rattle.matching.proofs.Reconciling.{reconciled_as}
use Rattle.matching.proofs.pairing.reconcile.Goals as goal

pub returns : goal.returns
returns g c =
    let xs = g.S.Memory.bytes c.args.statement.now in
    let ys = g.I.Memory.bytes c.args.open_items.now in
    let es = vec_items c.loop-index.entries in
    let is = vec_items c.loop-index.items.invoices in
    let entries : es ≡ entries_of xs ys = grind (arith, common_steps) in
    let invoices : is ≡ settled_invoices xs ys = grind (arith, common_steps) in
    record { entries = entries; invoices = invoices; law = reconciled_as xs ys es is entries invoices }
