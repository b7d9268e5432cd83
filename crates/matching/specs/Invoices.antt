-- The invoices, each a line `amount;payee`.
--   unread                 what stands for an invoice past the last one
--   claim_of line worded   what the line asks for, with the payee's place in the memory
--   claimed line r         the invoice on a line that was read as r
--   invoice_of line text   the invoice on a line with this text; a line without an end goes wrong where it ends
--   invoices_of xs         the invoices of the text xs, one for each line
--   settled_by line i      the invoice i once the statement line of this index is paired with it
use Rattle.std.specs.Prelude.{ℕ, ◌+◌, List, map, Ok, Err, Result}
use Rattle.lines.specs.Lines.{line_bytes, lines_of}
use Rattle.statement.specs.Records.{if_ended, worded_at}
use Rattle.lines.specs.declared.line.Line.{Line}
use Rattle.statement.specs.declared.malformed.Malformed.{Malformed}
use Rattle.statement.specs.declared.record.Worded.{Worded}
use Rattle.matching.specs.declared.invoice.Claim.{Claim}
use Rattle.matching.specs.declared.invoice.Invoice.{Invoice}
use Rattle.matching.specs.declared.invoice.Invoice.TheVariants.{Open, Settled, Unlawful}

abbrev pub unread : Invoice
unread = Unlawful (record { at = 0 })

abbrev pub claim_of : Line → Worded → Claim
claim_of line worded = record {
  amount = worded.amount;
  payee = record { start = line.span.start + worded.text.start; length = worded.text.length };
}

abbrev pub claimed : Line → Result Worded Malformed → Invoice
claimed line (Ok worded) = Open (claim_of line worded)
claimed line (Err malformed) = Unlawful malformed

abbrev pub invoice_of : Line → List ℕ → Invoice
invoice_of line text = claimed line (if_ended line text (worded_at text 0))

abbrev pub invoices_of : List ℕ → List Invoice
invoices_of xs = map (λ line. invoice_of line (line_bytes xs line)) (lines_of xs)

abbrev pub settled_by : ℕ → Invoice → Invoice
settled_by line (Open claim) = Settled claim line
settled_by line (Settled claim by) = Settled claim by
settled_by line (Unlawful malformed) = Unlawful malformed
