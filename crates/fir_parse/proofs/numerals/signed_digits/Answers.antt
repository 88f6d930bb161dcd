use Rattle.std.proofs.Common.{true, false, drop, sym, ap, ◌∙◌, arith, rules}
use Rattle.fir_parse.specs.Numbers.{numeral, digits_value}
use Rattle.fir_parse.specs.working.Ranges.{number_within, numeral_within}
use Rattle.fir_parse.proofs.Signs.{rest_taken, signed_within, behind_minus, behind_plus}
use Rattle.fir_parse.proofs.numerals.signed_digits.Goals as goal

pub returns-in-45 : goal.returns-in-45
returns-in-45 c =
    let text = c.args.text.now in
    let e = behind_minus c.args.radix text (omega arith) (search rules) in
    c.with_sign.ensures ∙ ap (numeral true) (c.digits_value.ensures ∙ ap (λ s. number_within (digits_value c.args.radix s)) (rest_taken text))
    ∙ signed_within true (digits_value c.args.radix (drop 1 text)) ∙ ap numeral_within (sym e)

pub returns-in-43 : goal.returns-in-43
returns-in-43 c =
    let text = c.args.text.now in
    let e = behind_plus c.args.radix text (omega arith) (search rules) in
    c.with_sign-in-43.ensures ∙ ap (numeral false) (c.digits_value-in-43.ensures ∙ ap (λ s. number_within (digits_value c.args.radix s)) (rest_taken text))
    ∙ signed_within false (digits_value c.args.radix (drop 1 text)) ∙ ap numeral_within (sym e)
