use Rattle.std.proofs.Common.{◌≡◌, map, take, vec_items}
use Rattle.lines.specs.Lines.{line_bytes, lines_of}
use Rattle.matching.specs.Invoices.{invoice_of}
use Rattle.matching.proofs.invoice.OpenItems.read.Given as goal

abbrev pub invariant-loop-line : goal.invariant-loop-line
invariant-loop-line g l =
    let xs = g.M.Memory.bytes l.mem in
    vec_items l.invoices ≡ map (λ line. invoice_of line (line_bytes xs line)) (take l.line-index (lines_of xs))
