-- The whole statement, from what each line does to the invoices.
use Rattle.std.proofs.Common.{◌≡◌, ℕ, zero, suc, ◌+◌, List, [], ◌∷◌, map, get_or, Ok, sym, refl, ap, ◌∙◌, subst, arith}
use Rattle.lines.specs.Lines.{line_bytes, lines_of}
use Rattle.lines.specs.Spans.{span_bytes}
use Rattle.statement.specs.Records.{ended_record, part_bytes}
use Rattle.lines.specs.declared.line.Line.{Line}
use Rattle.statement.specs.declared.record.Record.TheVariants.{Payment}
use Rattle.statement.specs.declared.record.Worded.{Worded}
use Rattle.matching.specs.Invoices.{invoices_of, unread}
use Rattle.matching.specs.Pairings.{judged, entries_from, entries_of, invoices_after, settled_invoices}
use Rattle.matching.specs.Reconciliation.{EqualPair, Reconciled, no_line, outcome_at}
use Rattle.matching.specs.declared.entry.Entry.{Entry}
use Rattle.matching.specs.declared.entry.Outcome.TheVariants.{Paired}
use Rattle.matching.specs.declared.invoice.Claim.{Claim}
use Rattle.matching.specs.declared.invoice.Invoice.{Invoice}
use Rattle.matching.specs.declared.invoice.Invoice.TheVariants.{Open, Settled}
use Rattle.matching.proofs.Judging.{Step, step, open_or_settled}

module _ (xs ys : List ℕ) where
  lines_stay : (k : ℕ) (is : List Invoice) (ls : List Line) → map (λ e. e.line) (entries_from xs ys k is ls) ≡ ls
  lines_stay k is [] = refl
  lines_stay k is (l ∷ ls) = ap (λ rest. l ∷ rest) (lines_stay (k + 1) (judged ys k l (line_bytes xs l) is).1 ls)

  turn : (k : ℕ) (is : List Invoice) (l : Line) → Step ys k (line_bytes xs l) (ended_record l (line_bytes xs l)) is (judged ys k l (line_bytes xs l) is).0 (judged ys k l (line_bytes xs l) is).1
  turn k is l = step ys k (line_bytes xs l) is (ended_record l (line_bytes xs l))

  stays_settled : (k : ℕ) (is : List Invoice) (ls : List Line) (i m : ℕ) (c : Claim) → get_or is i unread ≡ Settled c m → get_or (invoices_after xs ys k is ls) i unread ≡ Settled c m
  stays_settled k is [] i m c e = e
  stays_settled k is (l ∷ ls) i m c e = stays_settled (k + 1) (judged ys k l (line_bytes xs l) is).1 ls i m c ((turn k is l).stays_settled i m c e)

  was_open : (k : ℕ) (is : List Invoice) (ls : List Line) (i : ℕ) (c : Claim) → get_or (invoices_after xs ys k is ls) i unread ≡ Open c → get_or is i unread ≡ Open c
  was_open k is [] i c e = e
  was_open k is (l ∷ ls) i c e = (turn k is l).was_open i c (was_open (k + 1) (judged ys k l (line_bytes xs l) is).1 ls i c e)

  stays_open : (k : ℕ) (is : List Invoice) (ls : List Line) (i : ℕ) (c : Claim) → get_or is i unread ≡ Open c → ((j : ℕ) (p : Worded) → outcome_at (entries_from xs ys k is ls) j ≡ Paired p i → ⊥) → get_or (invoices_after xs ys k is ls) i unread ≡ Open c
  stays_open k is [] i c e unpaired = e
  stays_open k is (l ∷ ls) i c e unpaired =
      stays_open (k + 1) (judged ys k l (line_bytes xs l) is).1 ls i c
      ((turn k is l).stays_open i c e (λ p. unpaired 0 p))
      (λ j p. unpaired (suc j) p)

  -- line j of the lines ls, of which the first has the index k, paired with invoice i
  record PairedAt (k : ℕ) (is : List Invoice) (ls : List Line) (j i : ℕ) (p : Worded) : Type 0 where
    pub said : ended_record (get_or ls j no_line) (line_bytes xs (get_or ls j no_line)) ≡ Ok (Payment p)
    pub claim : Claim
    pub before : get_or is i unread ≡ Open claim
    pub after : get_or (invoices_after xs ys k is ls) i unread ≡ Settled claim (k + j)
    pub amounts : claim.amount ≡ p.amount
    pub payees : span_bytes ys claim.payee ≡ part_bytes (line_bytes xs (get_or ls j no_line)) p.text

  paired_at : (k : ℕ) (is : List Invoice) (ls : List Line) (j i : ℕ) (p : Worded) → outcome_at (entries_from xs ys k is ls) j ≡ Paired p i → PairedAt k is ls j i p
  paired_at k is [] j i p e = absurd (cc)
  paired_at k is (l ∷ ls) zero i p e =
      let here = (turn k is l).pairs i p e in
      let last = stays_settled (k + 1) (judged ys k l (line_bytes xs l) is).1 ls i k here.claim here.after in
      record {
        said = here.said;
        claim = here.claim;
        before = here.before;
        after = last ∙ ap (Settled here.claim) (omega arith);
        amounts = here.amounts;
        payees = here.payees;
      }
  paired_at k is (l ∷ ls) (suc j) i p e =
      let later = paired_at (k + 1) (judged ys k l (line_bytes xs l) is).1 ls j i p e in
      record {
        said = later.said;
        claim = later.claim;
        before = (turn k is l).was_open i later.claim later.before;
        after = later.after ∙ ap (Settled later.claim) (omega arith);
        amounts = later.amounts;
        payees = later.payees;
      }

  at_first : (k i : ℕ) (p : Worded) → outcome_at (entries_of xs ys) k ≡ Paired p i → PairedAt 0 (invoices_of ys) (lines_of xs) k i p
  at_first k i p e = paired_at 0 (invoices_of ys) (lines_of xs) k i p e

  marked : (k i : ℕ) (p : Worded) (e : outcome_at (entries_of xs ys) k ≡ Paired p i) → get_or (settled_invoices xs ys) i unread ≡ Settled (at_first k i p e).claim k
  marked k i p e = (at_first k i p e).after ∙ ap (Settled (at_first k i p e).claim) (omega arith)

  equal_pair : (k i : ℕ) (p : Worded) → outcome_at (entries_of xs ys) k ≡ Paired p i → EqualPair xs ys k p i
  equal_pair k i p e =
      let here = at_first k i p e in
      record { said = here.said; claim = here.claim; asked = here.before; amounts = here.amounts; payees = here.payees }

  -- both lines are the one that the invoice names in the end
  not_twice : (j k i : ℕ) (p q : Worded) → outcome_at (entries_of xs ys) j ≡ Paired p i → outcome_at (entries_of xs ys) k ≡ Paired q i → j ≡ k
  not_twice j k i p q d e = let first = marked j i p d in let second = marked k i q e in cc

  reconciled : Reconciled xs ys (entries_of xs ys) (settled_invoices xs ys)
  reconciled = record {
    each_line_once = lines_stay 0 (invoices_of ys) (lines_of xs);
    equal_pairs = equal_pair;
    no_invoice_twice = not_twice;
    marked_settled = λ k i p e. ((at_first k i p e).claim, marked k i p e);
    was_open = was_open 0 (invoices_of ys) (lines_of xs);
    not_paired = λ i k c p o e. open_or_settled (sym o ∙ marked k i p e);
    still_open = stays_open 0 (invoices_of ys) (lines_of xs);
  }

  pub reconciled_as : (es : List Entry) (is : List Invoice) → es ≡ entries_of xs ys → is ≡ settled_invoices xs ys → Reconciled xs ys es is
  reconciled_as es is entries invoices =
      subst (λ (v : List Entry). Reconciled xs ys v is) (sym entries) (subst (λ (v : List Invoice). Reconciled xs ys (entries_of xs ys) v) (sym invoices) reconciled)
