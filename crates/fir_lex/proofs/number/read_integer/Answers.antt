use Rattle.std.proofs.Common.{◌≤◌, ap, ◌∙◌, take, drop, arith}
use Rattle.fir_lex.proofs.Words.{digits_some}
use Rattle.fir_lex.proofs.Integers.{integer_has}
use Rattle.fir_lex.proofs.number.read_integer.Goals as goal

pub returns-in-Some-clause-within : goal.returns-in-Some-clause-within
returns-in-Some-clause-within c =
    let some : 1 ≤ c.digits_length-count.result = rw (c.digits_length-count.ensures, c.split_at.ensures.back) (digits_some (drop c.args.sign c.args.bytes.now) c.requires.digit) in (
      omega (arith, c.whole.ensures.length, c.split_at-2.ensures.front_len, c.split_at-2.ensures.back_len, c.split_at.ensures.front_len, c.split_at.ensures.back_len),
      integer_has c.whole.result.kind c.args.bytes.now c.split_at-2.result.0.now c.args.sign c.digits_length-count.result c.whole.result.from c.whole.result.upto c.in-Some.number
          c.whole.ensures.kind c.whole.ensures.from c.whole.ensures.upto c.requires.sign c.requires.within some
          (c.split_at-2.ensures.front ∙ ap (take c.digits_length-count.result) c.split_at.ensures.back) c.in-Some.ensures.1,
    )
