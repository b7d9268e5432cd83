-- The bytes of a span.
use Rattle.std.proofs.Common.{◌≡◌, ℕ, zero, suc, ◌==◌, ◌&&◌, [], ◌∷◌, bytes_eq, zip, refl, ◌+◌, ◌-◌, ◌<◌, min, List, map, length, get_or, drop, sym, ap, ◌∙◌, arith, length-drop, length-take, get_or-drop, get_or-take}
use Rattle.std.specs.List.{list_all, range_with_len}
use Rattle.std.proofs.lemmas.List.FromFn.{fill_by_all}
use Rattle.lines.specs.Spans.{span_bytes}
use Rattle.lines.specs.declared.span.Span.{Span}

module _ (xs : List ℕ) (s : Span) where
  pub length_span : length (span_bytes xs s) ≡ min s.length (length xs - s.start)
  length_span = length-take s.length (drop s.start xs) ∙ ap (min s.length) (length-drop s.start xs)

  pub get_or_span : (k : ℕ) → k < length (span_bytes xs s) → get_or (span_bytes xs s) k 0 ≡ get_or xs (s.start + k) 0
  get_or_span k h = get_or-take s.length (drop s.start xs) k 0 (omega (arith, length_span)) ∙ get_or-drop s.start xs k 0

  -- the bytes that are read at each offset
  pub read_at_offsets : (n : ℕ) → n ≡ length (span_bytes xs s) → map (λ k. get_or xs (s.start + k) 0) (range_with_len 0 n) ≡ span_bytes xs s
  read_at_offsets n count = sym (fill_by_all (λ k. get_or xs (s.start + k) 0) (span_bytes xs s) n 0 (sym count) (λ k h. get_or_span k (omega arith)))

-- two lists of one length, compared index by index
pub same_at_indices : (f : ℕ → ℕ) (a n : ℕ) (ys : List ℕ) → n ≡ length ys → list_all (λ p. f p.0 == p.1) (zip (range_with_len a n) ys) ≡ bytes_eq (map f (range_with_len a n)) ys
same_at_indices f a zero [] e = refl
same_at_indices f a zero (y ∷ ys) e = absurd (omega arith)
same_at_indices f a (suc n) [] e = absurd (omega arith)
same_at_indices f a (suc n) (y ∷ ys) e = ap (λ rest. (f a == y) && rest) (same_at_indices f (a + 1) n ys (omega arith))
