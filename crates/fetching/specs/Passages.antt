-- A statement that is reconciled line by line, as it passes by. The invoices stand in the text ys.
--   Underway xs ys p left    the progress p through the statement xs, of which the bytes left are still to come
--     behind                 they stand behind the position
--     entries                the entries so far, and those of the lines that are left, are all entries
--     invoices               the invoices so far become those of the whole statement by the lines that are left
--   Carries ys p v q w       the progress goes from p, with the bytes v still to come, to q, with w, whatever comes behind them
--   Entered ys p l text q    the progress goes from p to q as the line l, with this text, is judged and entered
use Rattle.std.specs.Prelude.{◌≡◌, ℕ, ◌+◌, List, [], ◌∷◌, ◌++◌, drop, vec_items, vec_len}
use Rattle.lines.specs.Lines.{lines_from}
use Rattle.lines.specs.declared.line.Line.{Line}
use Rattle.matching.specs.Pairings.{entries_from, entries_of, invoices_after, judged, settled_invoices}
use Rattle.matching.specs.declared.entry.Entry.{Entry}
use Rattle.fetching.specs.declared.progress.Progress.{Progress}

pub record Underway {I : Type 0} (xs ys : List ℕ) (p : Progress I) (left : List ℕ) : Type 0 where
  pub behind : drop p.position xs ≡ left
  pub entries : vec_items p.entries ++ entries_from xs ys (vec_len p.entries) (vec_items p.open_items.invoices) (lines_from p.position p.position left) ≡ entries_of xs ys
  pub invoices : invoices_after xs ys (vec_len p.entries) (vec_items p.open_items.invoices) (lines_from p.position p.position left) ≡ settled_invoices xs ys

abbrev pub Carries : {I : Type 0} → List ℕ → Progress I → List ℕ → Progress I → List ℕ → Type 0
Carries ys p v q w = (xs later : List ℕ) → Underway xs ys p (v ++ later) → Underway xs ys q (w ++ later)

abbrev pub entry_of : {I : Type 0} → List ℕ → Progress I → Line → List ℕ → Entry
entry_of ys p line text = record { line = line; outcome = (judged ys (vec_len p.entries) line text (vec_items p.open_items.invoices)).0 }

pub record Entered {I : Type 0} (ys : List ℕ) (p : Progress I) (line : Line) (text : List ℕ) (q : Progress I) : Type 0 where
  pub entries : vec_items q.entries ≡ vec_items p.entries ++ entry_of ys p line text ∷ []
  pub count : vec_len q.entries ≡ vec_len p.entries + 1
  pub invoices : vec_items q.open_items.invoices ≡ (judged ys (vec_len p.entries) line text (vec_items p.open_items.invoices)).1
  pub position : q.position ≡ p.position
