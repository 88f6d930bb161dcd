use Rattle.std.proofs.Common.{arith, sym, ap, ◌∙◌, get_or, ◌+◌, drop}
use Rattle.ver_lex.proofs.Numbers.{next_number, number_from, number_grows, next_digit, no_more_digits}
use Rattle.ver_lex.proofs.constant.number_in.Goals as goal

pub loop-digit-preserved : goal.loop-digit-preserved
loop-digit-preserved c =
    let e = c.loop-digit.invariant.1 ∙ next_digit c.args.radix c.loop-digit.number c.loop-digit.digit-index c.args.digits.now c.loop-digit-test.true in
    (omega (arith, c.in_ok-number.ensures), e ∙ ap (λ n. number_from c.args.radix n (drop (c.loop-digit.digit-index + 1) c.args.digits.now)) (sym c.in_ok-number.ensures.1))

pub returns-in_err-number : goal.returns-in_err-number
returns-in_err-number c = rw c.from_residual.ensures (λ h.
    let e = c.loop-digit.invariant.1 ∙ next_digit c.args.radix c.loop-digit.number c.loop-digit.digit-index c.args.digits.now c.loop-digit-test.true in
    let g = number_grows c.args.radix (next_number c.args.radix c.loop-digit.number (get_or c.args.digits.now c.loop-digit.digit-index 0)) (drop (c.loop-digit.digit-index + 1) c.args.digits.now) c.requires in
    c.in_err-number.ensures (omega (arith, e, g, h)))

pub returns : goal.returns
returns c =
    let e = c.loop-digit.invariant.1 ∙ no_more_digits c.args.radix c.loop-digit.number c.loop-digit.digit-index c.args.digits.now c.loop-digit-test.false in
    (rw e c.loop-digit.invariant.0, sym e)
