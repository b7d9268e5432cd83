-- What one line does to the invoices.
use Rattle.std.proofs.Common.{◌≡◌, ℕ, ◌<◌, true, ◌≢◌, bytes_eq, position, List, length, get_or, set, ℤ, Some, None, Ok, Err, Option, Result, sym, refl, ap, ◌∙◌, subst, ⊎_elim, get_or-set_other, get_or-set_same}
use Rattle.std.specs.Ordering.{int_eq}
use Rattle.std.proofs.lemmas.Bool.{and_parts, cases_eq}
use Rattle.std.proofs.lemmas.Bool.Decides.{Decides-int_eq}
use Rattle.std.proofs.lemmas.List.Quantifiers.{position-Some}
use Rattle.std.proofs.lemmas.Slice.Eq.{bytes_eq-Decides}
use Rattle.lines.specs.Spans.{span_bytes}
use Rattle.statement.specs.Records.{part_bytes}
use Rattle.statement.specs.declared.malformed.Malformed.{Malformed}
use Rattle.statement.specs.declared.record.Record.{Record}
use Rattle.statement.specs.declared.record.Record.TheVariants.{Balance, Payment, Charge, Return}
use Rattle.statement.specs.declared.record.Worded.{Worded}
use Rattle.matching.specs.Invoices.{settled_by, unread}
use Rattle.matching.specs.Pairings.{asks_for, pairing, judgement, judged_as}
use Rattle.matching.specs.declared.entry.Outcome.{Outcome}
use Rattle.matching.specs.declared.entry.Outcome.TheVariants.{Paired, Unmatched, Unreadable}
use Rattle.matching.specs.declared.invoice.Claim.{Claim}
use Rattle.matching.specs.declared.invoice.Invoice.{Invoice}
use Rattle.matching.specs.declared.invoice.Invoice.TheVariants.{Open, Settled, Unlawful}

-- an open invoice is no settled one
pub open_or_settled : {A : Type 0} {c d : Claim} {m : ℕ} → Open c ≡ Settled d m → A
open_or_settled e = absurd (cc)

-- an invoice that asks for the amount from the payee
record Asking (ys : List ℕ) (amount : ℤ) (payee : List ℕ) (i : Invoice) : Type 0 where
  pub claim : Claim
  pub is_open : i ≡ Open claim
  pub amounts : claim.amount ≡ amount
  pub payees : span_bytes ys claim.payee ≡ payee

asking : (ys : List ℕ) (amount : ℤ) (payee : List ℕ) (i : Invoice) → asks_for ys amount payee i ≡ true → Asking ys amount payee i
asking ys amount payee (Open claim) e =
    let k = and_parts (int_eq claim.amount amount) (bytes_eq (span_bytes ys claim.payee) payee) e in
    record {
      claim = claim;
      is_open = refl;
      amounts = (Decides-int_eq claim.amount amount).0 k.0;
      payees = (bytes_eq-Decides (span_bytes ys claim.payee) payee).0 k.1;
    }
asking ys amount payee (Settled claim line) e = absurd (cc)
asking ys amount payee (Unlawful malformed) e = absurd (cc)

-- a payment p on line k, with this text that was read as r, and invoice i: is are the invoices before and js those after
pub record Pairs (ys : List ℕ) (k : ℕ) (text : List ℕ) (r : Result Record Malformed) (is js : List Invoice) (p : Worded) (i : ℕ) : Type 0 where
  pub said : r ≡ Ok (Payment p)
  pub claim : Claim
  pub before : get_or is i unread ≡ Open claim
  pub after : get_or js i unread ≡ Settled claim k
  pub amounts : claim.amount ≡ p.amount
  pub payees : span_bytes ys claim.payee ≡ part_bytes text p.text

-- what line k may do to the invoices is, which are js after it, where o became of it
pub record Step (ys : List ℕ) (k : ℕ) (text : List ℕ) (r : Result Record Malformed) (is : List Invoice) (o : Outcome) (js : List Invoice) : Type 0 where
  pub stays_settled : (i m : ℕ) (c : Claim) → get_or is i unread ≡ Settled c m → get_or js i unread ≡ Settled c m
  pub was_open : (i : ℕ) (c : Claim) → get_or js i unread ≡ Open c → get_or is i unread ≡ Open c
  pub stays_open : (i : ℕ) (c : Claim) → get_or is i unread ≡ Open c → ((p : Worded) → o ≡ Paired p i → ⊥) → get_or js i unread ≡ Open c
  pub pairs : (i : ℕ) (p : Worded) → o ≡ Paired p i → Pairs ys k text r is js p i

module _ (ys : List ℕ) (k : ℕ) (text : List ℕ) (is : List Invoice) where
  -- a line that is logged leaves the invoices
  logged : (r : Result Record Malformed) (o : Outcome) → ((p : Worded) (i : ℕ) → o ≡ Paired p i → ⊥) → Step ys k text r is o is
  logged r o unpaired = record {
    stays_settled = λ i m c e. e;
    was_open = λ i c e. e;
    stays_open = λ i c e _. e;
    pairs = λ i p e. absurd (unpaired p i e);
  }

  -- a payment that is paired settles its invoice and leaves the others
  module _ (p : Worded) (i : ℕ) (inside : i < length is) (asks : asks_for ys p.amount (part_bytes text p.text) (get_or is i unread) ≡ true) where
    a : Asking ys p.amount (part_bytes text p.text) (get_or is i unread)
    a = asking ys p.amount (part_bytes text p.text) (get_or is i unread) asks

    abbrev js : List Invoice
    js = set is i (settled_by k (get_or is i unread))

    at_invoice : get_or js i unread ≡ Settled a.claim k
    at_invoice = get_or-set_same is i (settled_by k (get_or is i unread)) unread inside ∙ ap (settled_by k) a.is_open

    elsewhere : (j : ℕ) → j ≢ i → get_or js j unread ≡ get_or is j unread
    elsewhere j ne = get_or-set_other is i j (settled_by k (get_or is i unread)) unread ne

    itself : Pairs ys k text (Ok (Payment p)) is js p i
    itself = record { said = refl; claim = a.claim; before = a.is_open; after = at_invoice; amounts = a.amounts; payees = a.payees }

    at_same : (j : ℕ) → j ≡ i → get_or is j unread ≡ Open a.claim
    at_same j same = ap (λ n. get_or is n unread) same ∙ a.is_open

    settled_same : (j : ℕ) → j ≡ i → get_or js j unread ≡ Settled a.claim k
    settled_same j same = ap (λ n. get_or js n unread) same ∙ at_invoice

    paired : Step ys k text (Ok (Payment p)) is (Paired p i) js
    paired = record {
      stays_settled = λ j m c e. ⊎_elim (λ same. open_or_settled (sym (at_same j same) ∙ e)) (λ other. elsewhere j other ∙ e) (cases_eq j i);
      was_open = λ j c e. ⊎_elim (λ same. open_or_settled (sym e ∙ settled_same j same)) (λ other. sym (elsewhere j other) ∙ e) (cases_eq j i);
      stays_open = λ j c e unpaired. ⊎_elim (λ same. absurd (unpaired p (ap (Paired p) (sym same)))) (λ other. elsewhere j other ∙ e) (cases_eq j i);
      pairs = λ j q e.
          let payment : p ≡ q = cc in
          let invoice : i ≡ j = cc in
          subst (λ (n : ℕ). Pairs ys k text (Ok (Payment p)) is js q n) invoice (subst (λ (w : Worded). Pairs ys k text (Ok (Payment p)) is js w i) payment itself);
    }

  by_search : (p : Worded) (o : Option ℕ) → position (asks_for ys p.amount (part_bytes text p.text)) is ≡ o → Step ys k text (Ok (Payment p)) is (pairing k p is o).0 (pairing k p is o).1
  by_search p (Some i) e = let found = position-Some (asks_for ys p.amount (part_bytes text p.text)) is i unread e in paired p i found.0 found.1
  by_search p None e = logged (Ok (Payment p)) (Unmatched (Payment p)) (λ q i e. cc)

  by_record : (said : Record) → Step ys k text (Ok said) is (judgement ys k text is said).0 (judgement ys k text is said).1
  by_record (Balance amount) = logged (Ok (Balance amount)) (Unmatched (Balance amount)) (λ p i e. cc)
  by_record (Payment p) = by_search p (position (asks_for ys p.amount (part_bytes text p.text)) is) refl
  by_record (Charge w) = logged (Ok (Charge w)) (Unmatched (Charge w)) (λ p i e. cc)
  by_record (Return w) = logged (Ok (Return w)) (Unmatched (Return w)) (λ p i e. cc)

  pub step : (r : Result Record Malformed) → Step ys k text r is (judged_as ys k text is r).0 (judged_as ys k text is r).1
  step (Ok said) = by_record said
  step (Err malformed) = logged (Err malformed) (Unreadable malformed) (λ p i e. cc)
