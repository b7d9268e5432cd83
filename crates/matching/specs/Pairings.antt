-- Which invoice each payment is paired with, line by line. The invoices stand in the text ys, the statement in xs.
--   asks_for ys a payee i         whether the invoice i is open and asks for the amount a from this payee
--   pairing k payment is found    a payment on line k and the invoices after it, where this invoice was found for it
--   judgement ys k text is said   what becomes of line k, with this text, that says this record
--   judged_as ys k text is r      the same for a line that was read as r
--   judged ys k line text is      the same for a line with this text
--   entries_from xs ys k is ls    what becomes of the lines ls, of which the first has the index k
--   invoices_after xs ys k is ls  the invoices after these lines
--   entries_of xs ys              what becomes of every line of the statement
--   settled_invoices xs ys        the invoices after the whole statement
use Rattle.std.specs.Prelude.{ℕ, ◌+◌, Bool, false, ◌&&◌, List, [], ◌∷◌, ℤ, Some, None, Ok, Err, Option, Result, bytes_eq, position, slice_index_or, slice_set}
use Rattle.std.specs.Ordering.{int_eq}
use Rattle.lines.specs.Lines.{line_bytes, lines_of}
use Rattle.lines.specs.Spans.{span_bytes}
use Rattle.statement.specs.Records.{ended_record, part_bytes}
use Rattle.lines.specs.declared.line.Line.{Line}
use Rattle.statement.specs.declared.malformed.Malformed.{Malformed}
use Rattle.statement.specs.declared.record.Record.{Record}
use Rattle.statement.specs.declared.record.Record.TheVariants.{Balance, Payment, Charge, Return}
use Rattle.statement.specs.declared.record.Worded.{Worded}
use Rattle.matching.specs.Invoices.{invoices_of, settled_by, unread}
use Rattle.matching.specs.declared.entry.Entry.{Entry}
use Rattle.matching.specs.declared.entry.Outcome.{Outcome}
use Rattle.matching.specs.declared.entry.Outcome.TheVariants.{Paired, Unmatched, Unreadable}
use Rattle.matching.specs.declared.invoice.Invoice.{Invoice}
use Rattle.matching.specs.declared.invoice.Invoice.TheVariants.{Open, Settled, Unlawful}

abbrev pub asks_for : List ℕ → ℤ → List ℕ → Invoice → Bool
asks_for ys amount payee (Open claim) = int_eq claim.amount amount && bytes_eq (span_bytes ys claim.payee) payee
asks_for ys amount payee (Settled claim line) = false
asks_for ys amount payee (Unlawful malformed) = false

abbrev pub pairing : ℕ → Worded → List Invoice → Option ℕ → Outcome × List Invoice
pairing k payment is (Some i) = (Paired payment i, slice_set is i (settled_by k (slice_index_or is i unread)))
pairing k payment is None = (Unmatched (Payment payment), is)

abbrev pub judgement : List ℕ → ℕ → List ℕ → List Invoice → Record → Outcome × List Invoice
judgement ys k text is (Balance amount) = (Unmatched (Balance amount), is)
judgement ys k text is (Payment payment) = pairing k payment is (position (asks_for ys payment.amount (part_bytes text payment.text)) is)
judgement ys k text is (Charge worded) = (Unmatched (Charge worded), is)
judgement ys k text is (Return worded) = (Unmatched (Return worded), is)

abbrev pub judged_as : List ℕ → ℕ → List ℕ → List Invoice → Result Record Malformed → Outcome × List Invoice
judged_as ys k text is (Ok said) = judgement ys k text is said
judged_as ys k text is (Err malformed) = (Unreadable malformed, is)

abbrev pub judged : List ℕ → ℕ → Line → List ℕ → List Invoice → Outcome × List Invoice
judged ys k line text is = judged_as ys k text is (ended_record line text)

abbrev pub entries_from : List ℕ → List ℕ → ℕ → List Invoice → List Line → List Entry
entries_from xs ys k is [] = []
entries_from xs ys k is (l ∷ ls) =
    record { line = l; outcome = (judged ys k l (line_bytes xs l) is).0 }
    ∷ entries_from xs ys (k + 1) (judged ys k l (line_bytes xs l) is).1 ls

abbrev pub invoices_after : List ℕ → List ℕ → ℕ → List Invoice → List Line → List Invoice
invoices_after xs ys k is [] = is
invoices_after xs ys k is (l ∷ ls) = invoices_after xs ys (k + 1) (judged ys k l (line_bytes xs l) is).1 ls

abbrev pub entries_of : List ℕ → List ℕ → List Entry
entries_of xs ys = entries_from xs ys 0 (invoices_of ys) (lines_of xs)

abbrev pub settled_invoices : List ℕ → List ℕ → List Invoice
settled_invoices xs ys = invoices_after xs ys 0 (invoices_of ys) (lines_of xs)
