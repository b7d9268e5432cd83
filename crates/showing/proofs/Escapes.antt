-- What each kind of byte becomes between quotation marks.
use Rattle.std.proofs.Common.{◌≡◌, ◌≢◌, ℕ, ◌<◌, ◌≤◌, ◌^◌, ◌-◌, ◌⊎◌, false, [], ◌∷◌, ◌++◌, refl, sym, subst, ap, ◌∙◌, arith, encode_utf8}
use Rattle.std.proofs.lemmas.Fmt.{hex_byte}
use Rattle.std.proofs.lemmas.Str.Ascii.{encode_ascii}
use Rattle.std.specs.Fmt.{digits, padded_integral, format_spec}
use Rattle.std.specs.Prelude.{codes}
use Rattle.showing.specs.Texts.{escaped}

pub escaped_mark : (b : ℕ) → b ≡ 34 → codes "\\\"" ≡ escaped b
escaped_mark b e = subst (λ x. codes "\\\"" ≡ escaped x) (sym e) refl

pub escaped_backslash : (b : ℕ) → b ≡ 92 → codes "\\\\" ≡ escaped b
escaped_backslash b e = subst (λ x. codes "\\\\" ≡ escaped x) (sym e) refl

pub escaped_printing : (b c : ℕ) → c ≡ b → 32 ≤ b → b ≤ 126 → b ≢ 34 → b ≢ 92 → encode_utf8 c ≡ escaped b
escaped_printing b c e low high mark backslash =
    let alone : b ∷ [] ≡ escaped b = grind arith in
    encode_ascii c (omega arith) ∙ (ap (λ x. x ∷ []) e ∙ alone)

pub escaped_hex : (b : ℕ) → (b < 32) ⊎ (127 ≤ b) → b < 256 → codes "\\x" ++ padded_integral (format_spec 32 0 4 2 (2 ^ 64 - 1)) false [] (digits 16 false b) ≡ escaped b
escaped_hex b outside byte = grind (arith, hex_byte false b)
