-- Parts of the bytes, and what a token's handle and its list in the book are.
use Rattle.std.proofs.Common.{◌≡◌, ℕ, ◌+◌, ◌-◌, ◌≤◌, min, false, List, ◌++◌, length, take, drop, Some, sym, refl, ap, ◌∙◌, subst, inl, inr, arith}
use Rattle.std.proofs.lemmas.List.{drop_all, drop-drop, drop-take, length-drop, length-take, length-take-le, take_all, take-append-drop, take-take}
use Rattle.std.proofs.lemmas.Bool.{cases_lt, true≢false}
use Rattle.rows.specs.Rows.{handle_free, len_of, start_of}
use Rattle.table.specs.Tables.{handle_at}
use Rattle.rows.specs.declared.handle.HandleRow.{HandleRow}
use Rattle.rows.specs.declared.handle.HandleRow.TheVariants as row
use Rattle.rows.specs.declared.handle.WritableHandle.{WritableHandle}
use Rattle.table.specs.declared.table.Table.{Table}
use Rattle.law.specs.Book.{Book, list_of, listed, the_list}
use Rattle.law.specs.Law.{part}
use Rattle.law.proofs.Kept.{Kept, shown_by}

-- Parts of a part.

module _ (m : List ℕ) (start len n : ℕ) (within : n ≤ len) where
  pub part_front : part m start n ≡ take n (part m start len)
  part_front = sym (take-take n len (drop start m) within)

  pub part_behind : part m (start + n) (len - n) ≡ drop n (part m start len)
  part_behind =
      let e : len ≡ n + (len - n) = omega arith in
      sym (ap (λ x. drop n (take x (drop start m))) e ∙ drop-take n (len - n) (drop start m) ∙ ap (take (len - n)) (drop-drop n start m))

  module _ (whole : length (part m start len) ≡ len) where
    pub whole_front : length (part m start n) ≡ n
    whole_front = ap length part_front ∙ length-take-le n (part m start len) (omega arith)

    pub whole_behind : length (part m (start + n) (len - n)) ≡ len - n
    whole_behind = ap length part_behind ∙ length-drop n (part m start len) ∙ ap (λ x. x - n) whole

-- the first bytes of a part, and those behind them, where it may have fewer
module _ (m : List ℕ) (start len at : ℕ) (whole : length (part m start len) ≡ len) where
  pub part_first : part m start (min len at) ≡ take at (part m start len)
  part_first =
      elim (cases_lt len at) [
        | inl less ↦ (let all : min len at ≡ len = omega arith in ap (part m start) all ∙ sym (take_all at (part m start len) (omega arith)))
        | inr more ↦ (let some : min len at ≡ at = omega arith in ap (part m start) some ∙ part_front m start len at more)
      ]

  pub part_rest : part m (start + at) (len - at) ≡ drop at (part m start len)
  part_rest =
      elim (cases_lt len at) [
        | inl less ↦ (let none : len - at ≡ 0 = omega arith in ap (part m (start + at)) none ∙ sym (drop_all at (part m start len) (omega arith)))
        | inr more ↦ part_behind m start len at more
      ]

  pub whole_first : length (part m start (min len at)) ≡ min len at
  whole_first = ap length part_first ∙ length-take at (part m start len) ∙ omega arith

  pub whole_rest : length (part m (start + at) (len - at)) ≡ len - at
  whole_rest = ap length part_rest ∙ length-drop at (part m start len) ∙ ap (λ x. x - at) whole

-- two parts, of which the second begins where the first ends
pub part_joined : (m : List ℕ) (start len more : ℕ) → part m start (len + more) ≡ part m start len ++ part m (start + len) more
part_joined m start len more =
    let xs = drop start m in
    sym (take-append-drop len (take (len + more) xs))
    ∙ ap (λ x. x ++ drop len (take (len + more) xs)) (take-take len (len + more) xs (omega arith))
    ∙ ap (λ x. take len xs ++ x) (drop-take len more xs ∙ ap (take more) (drop-drop len start m))

pub part_part : (m : List ℕ) (start len at n : ℕ) → at + n ≤ len → part m (start + at) n ≡ part (part m start len) at n
part_part m start len at n within = part_front m (start + at) (len - at) n (omega arith) ∙ ap (take n) (part_behind m start len at (omega arith))

-- What the book has for a row.

pub shown_live : (m : List ℕ) (h : HandleRow) → handle_free h ≡ false → shown_by m h ≡ Some (part m (start_of h) (len_of h))
shown_live m row.Free l = absurd (true≢false l)
shown_live m (row.Writable h) l = refl
shown_live m (row.ReadOnly h) l = refl

module _ {found : List ℕ} {t : Table} {m : List ℕ} {k : Book} {marks : List ℕ} {slid distances : ℕ} (kept : Kept found t m k marks slid distances) (i : ℕ) (h : WritableHandle) (is : handle_at t i ≡ row.Writable h) where
  pub listed_shown : listed k i ≡ Some (part m h.start h.len)
  listed_shown = kept.agrees i ∙ ap (shown_by m) is

  pub list_shown : list_of k i ≡ part m h.start h.len
  list_shown = ap the_list listed_shown

  pub handle_whole : length (part m h.start h.len) ≡ h.len
  handle_whole = subst (λ g. length (part m (start_of g) (len_of g)) ≡ len_of g) is (kept.whole i)
