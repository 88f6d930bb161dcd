use Rattle.std.proofs.Common.{◌≡◌, ◌∙◌, nat_lt}
use Rattle.trace_text.specs.Spelling.{decimal_of}
use Rattle.trace_text.proofs.NumberOrder.{less_in_length, less_in_digits}
use Rattle.trace_text.proofs.number.decimal_less.Goals as goal

pub returns-then-a-b : goal.returns-then-a-b
returns-then-a-b c =
    let a = c.without_zeros-a.result.now in
    let b = c.without_zeros-b.result.now in
    let whole : nat_lt (decimal_of a) (decimal_of b) ≡ nat_lt (decimal_of c.args.a.now) (decimal_of c.args.b.now) = cc in
    c.lt.ensures ∙ less_in_digits 0 a b c.without_zeros-a.ensures.digits c.without_zeros-b.ensures.digits c.if-a-b.true ∙ whole

pub returns-else-a-b : goal.returns-else-a-b
returns-else-a-b c =
    let a = c.without_zeros-a in
    let b = c.without_zeros-b in
    let whole : nat_lt (decimal_of a.result.now) (decimal_of b.result.now) ≡ nat_lt (decimal_of c.args.a.now) (decimal_of c.args.b.now) = cc in
    less_in_length a.result.now b.result.now a.ensures.digits b.ensures.digits a.ensures.first b.ensures.first c.if-a-b.false ∙ whole
