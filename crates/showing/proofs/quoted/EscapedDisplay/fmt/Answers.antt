use Rattle.std.proofs.Common.{rules, ◌<◌, ◌≤◌, ◌⊎◌, [], ◌^◌, ◌-◌, false, Some, ap, ◌∙◌}
use Rattle.std.specs.Fmt.{styled_digits_output, padded_integral, format_spec, ◌++?◌}
use Rattle.std.specs.Option.{option_map}
use Rattle.std.specs.Prelude.{codes}
use Rattle.std.proofs.Output.{has_written_of_eq, displays_on_ok_of_eq}
use Rattle.showing.proofs.Escapes.{escaped_mark, escaped_backslash, escaped_printing, escaped_hex}
use Rattle.showing.proofs.quoted.EscapedDisplay.fmt.Goals as goal
use Rattle.showing.proofs.quoted.EscapedDisplay.fmt.Goals.{in_default-via-then-byte-lt32, in_default-via-else-byte-lt32+else-byte-lt127}

pub returns-in-34-clause-writes : goal.returns-in-34-clause-writes
returns-in-34-clause-writes g c = λ plain ok. has_written_of_eq _ _ _ _ _ (escaped_mark _ c.in-34.is) (c.write_str.ensures.writes plain ok)

pub returns-in-92-clause-writes : goal.returns-in-92-clause-writes
returns-in-92-clause-writes g c = λ plain ok. has_written_of_eq _ _ _ _ _ (escaped_backslash _ c.in-92.is) (c.write_str-in-92.ensures.writes plain ok)

pub returns-in-32-to-126-clause-writes : goal.returns-in-32-to-126-clause-writes
returns-in-32-to-126-clause-writes g c = λ plain ok. has_written_of_eq _ _ _ _ _ (escaped_printing _ _ c.from.ensures (search rules) (search rules) (search rules) (search rules)) (c.write_char.ensures.writes plain ok)

pub returns-in_default-clause-writes : goal.returns-in_default-clause-writes
returns-in_default-clause-writes g c =
    let outside : (c.args.self.now.0 < 32) ⊎ (127 ≤ c.args.self.now.0) = elim c.in_default.branch [ in_default-via-then-byte-lt32 w ↦ search rules | in_default-via-else-byte-lt32+else-byte-lt127 w ↦ search rules ] in
    let written =
    ap (λ s. Some (codes "\\x") ++? styled_digits_output c.in_radix.result s) c.laid_out.ensures
    ∙ (ap (λ o. Some (codes "\\x") ++? option_map (padded_integral (format_spec 32 0 4 2 (2 ^ 64 - 1)) false []) o) c.in_radix.ensures
    ∙ ap Some (escaped_hex _ outside (search rules))) in
    displays_on_ok_of_eq _ _ _ _ _ _ written c.write.ensures.writes
