-- What a reconciliation promises. The statement is the text xs, the invoices the text ys.
--   outcome_at es k      what became of line k
--   line_at xs k         line k of the statement
--   EqualPair xs ys k p i   the payment p on line k and invoice i: the line says p, and the invoice asked for the same amount
--                            from the same payee
--   Reconciled xs ys es is   the entries es and the invoices is are a reconciliation of xs with ys
--     each_line_once       the entries are the lines in their order: each line is paired or logged, and exactly once
--     equal_pairs          a pair has equal amounts and equal payee bytes
--     no_invoice_twice     no two lines are paired with one invoice
--     marked_settled       an invoice that a line is paired with names that line
--     was_open             an invoice that is open in the end was open at first
--     not_paired           and no line is paired with it
--     still_open           an invoice that was open, and that no line is paired with, is open in the end
use Rattle.std.specs.Prelude.{◌≡◌, ℕ, false, List, map, Ok, ◌≢◌, slice_index_or}
use Rattle.lines.specs.Lines.{line_bytes, lines_of}
use Rattle.lines.specs.Spans.{span_bytes}
use Rattle.statement.specs.Records.{ended_record, part_bytes}
use Rattle.lines.specs.declared.line.Line.{Line}
use Rattle.statement.specs.declared.record.Record.TheVariants.{Payment}
use Rattle.statement.specs.declared.record.Worded.{Worded}
use Rattle.matching.specs.Invoices.{invoices_of, unread}
use Rattle.matching.specs.declared.entry.Entry.{Entry}
use Rattle.matching.specs.declared.entry.Outcome.{Outcome}
use Rattle.matching.specs.declared.entry.Outcome.TheVariants.{Paired, Unreadable}
use Rattle.matching.specs.declared.invoice.Claim.{Claim}
use Rattle.matching.specs.declared.invoice.Invoice.{Invoice}
use Rattle.matching.specs.declared.invoice.Invoice.TheVariants.{Open, Settled}

-- past the last line there is none, and nothing becomes of it
abbrev pub no_line : Line
no_line = record { span = record { start = 0; length = 0 }; ended = false }

abbrev pub no_outcome : Outcome
no_outcome = Unreadable (record { at = 0 })

abbrev pub outcome_at : List Entry → ℕ → Outcome
outcome_at es k = (slice_index_or es k (record { line = no_line; outcome = no_outcome })).outcome

abbrev pub line_at : List ℕ → ℕ → Line
line_at xs k = slice_index_or (lines_of xs) k no_line

pub record EqualPair (xs ys : List ℕ) (k : ℕ) (payment : Worded) (i : ℕ) : Type 0 where
  pub said : ended_record (line_at xs k) (line_bytes xs (line_at xs k)) ≡ Ok (Payment payment)
  pub claim : Claim
  pub asked : slice_index_or (invoices_of ys) i unread ≡ Open claim
  pub amounts : claim.amount ≡ payment.amount
  pub payees : span_bytes ys claim.payee ≡ part_bytes (line_bytes xs (line_at xs k)) payment.text

pub record Reconciled (xs ys : List ℕ) (es : List Entry) (is : List Invoice) : Type 0 where
  pub each_line_once : map (λ e. e.line) es ≡ lines_of xs
  pub equal_pairs : (k i : ℕ) (payment : Worded) → outcome_at es k ≡ Paired payment i → EqualPair xs ys k payment i
  pub no_invoice_twice : (j k i : ℕ) (p q : Worded) → outcome_at es j ≡ Paired p i → outcome_at es k ≡ Paired q i → j ≡ k
  pub marked_settled : (k i : ℕ) (payment : Worded) → outcome_at es k ≡ Paired payment i → (claim : Claim) × (slice_index_or is i unread ≡ Settled claim k)
  pub was_open : (i : ℕ) (claim : Claim) → slice_index_or is i unread ≡ Open claim → slice_index_or (invoices_of ys) i unread ≡ Open claim
  pub not_paired : (i k : ℕ) (claim : Claim) (payment : Worded) → slice_index_or is i unread ≡ Open claim → outcome_at es k ≢ Paired payment i
  pub still_open : (i : ℕ) (claim : Claim) → slice_index_or (invoices_of ys) i unread ≡ Open claim → ((k : ℕ) (payment : Worded) → outcome_at es k ≢ Paired payment i) → slice_index_or is i unread ≡ Open claim
