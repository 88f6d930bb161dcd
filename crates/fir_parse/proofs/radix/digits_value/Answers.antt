use Rattle.std.proofs.Common.{refl, sym, ap, ◌+◌, ◌∙◌, drop, get_or}
use Rattle.fir_base.specs.Digits.{digit_value}
use Rattle.fir_parse.specs.Numbers.{next_value, digits_from}
use Rattle.fir_parse.specs.working.Ranges.{number_within}
use Rattle.fir_parse.proofs.Digits.{first_digit, next_of_radix, last_of_radix, too_large, in_range_is, stays_in_range}
use Rattle.fir_parse.proofs.radix.digits_value.Goals as goal

pub loop-digit-init : goal.loop-digit-init
loop-digit-init c = (refl, first_digit c.args.radix c.args.digits.now (sym c.is_empty.ensures ∙ c.if-is_empty.false))

pub loop-digit-preserved : goal.loop-digit-preserved
loop-digit-preserved c =
    let i = c.loop-digit.digit-index in
    let p = in_range_is (next_value c.args.radix c.loop-digit.number (digit_value (get_or c.args.digits.now i 0))) c.in_ok-number.number (sym c.next_value.ensures ∙ c.in_ok-number.was) in
    (p.0, c.loop-digit.invariant.1 ∙ next_of_radix c.args.radix c.loop-digit.number i c.args.digits.now c.loop-digit-test.true ∙ ap (λ o. digits_from c.args.radix o (drop (i + 1) c.args.digits.now)) p.1)

pub returns-in_err-number : goal.returns-in_err-number
returns-in_err-number c =
    let i = c.loop-digit.digit-index in
    let e = c.loop-digit.invariant.1 ∙ next_of_radix c.args.radix c.loop-digit.number i c.args.digits.now c.loop-digit-test.true in
    c.from_residual.ensures ∙ sym (ap number_within e ∙ too_large c.args.radix _ (drop (i + 1) c.args.digits.now) (sym c.next_value.ensures ∙ c.in_err-number.was))

pub returns : goal.returns
returns c =
    let e = c.loop-digit.invariant.1 ∙ last_of_radix c.args.radix c.loop-digit.number c.loop-digit.digit-index c.args.digits.now c.loop-digit-test.false in
    sym (ap number_within e ∙ stays_in_range c.loop-digit.number c.loop-digit.invariant.0)
