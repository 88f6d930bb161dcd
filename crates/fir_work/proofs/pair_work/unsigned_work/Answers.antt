use Rattle.fir_work.proofs.PairForms.{sum_form, difference_form, product_form, quotient_form, remainder_form, up_form, down_form}
use Rattle.fir_work.proofs.pair_work.unsigned_work.Goals as goal

pub returns-in-Add : goal.returns-in-Add
returns-in-Add c = rw c.in-Add.is (sum_form c.args.a c.args.b c.args.width c.requires.first c.requires.second (rw c.in-Add.is at c.requires.has_width))

pub returns-in-Sub : goal.returns-in-Sub
returns-in-Sub c = rw c.in-Sub.is (difference_form c.args.a c.args.b c.args.width c.requires.first c.requires.second c.mask.result c.mask.ensures (rw c.in-Sub.is at c.requires.has_width))

pub returns-in-Mul : goal.returns-in-Mul
returns-in-Mul c = rw c.in-Mul.is (product_form c.args.a c.args.b c.args.width c.requires.first c.requires.second (rw c.in-Mul.is at c.requires.has_width))

pub returns-in-Div : goal.returns-in-Div
returns-in-Div c = rw c.in-Div.is (quotient_form c.args.a c.args.b c.args.width c.requires.first c.requires.second (rw c.in-Div.is at c.requires.has_width))

pub returns-in-Rem : goal.returns-in-Rem
returns-in-Rem c = rw c.in-Rem.is (remainder_form c.args.a c.args.b c.args.width c.requires.first c.requires.second (rw c.in-Rem.is at c.requires.has_width))

pub returns-in-Dshl : goal.returns-in-Dshl
returns-in-Dshl c = rw c.in-Dshl.is (up_form c.args.a c.args.b c.args.width c.requires.first c.requires.second (rw c.in-Dshl.is at c.requires.has_width))

pub returns-in-Dshr : goal.returns-in-Dshr
returns-in-Dshr c = rw c.in-Dshr.is (down_form c.args.a c.args.b c.args.width c.requires.first c.requires.second (rw c.in-Dshr.is at c.requires.has_width))
