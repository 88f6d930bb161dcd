use Rattle.fir_work.proofs.SignedForms.{sum_form, difference_form, product_form, below_form, at_most_form, above_form, at_least_form}
use Rattle.fir_work.proofs.pair_work.signed_work.Goals as goal

pub returns-in-Add : goal.returns-in-Add
returns-in-Add c =
    rw (c.in-Add.is, c.signed_form.ensures) (sum_form c.args.a c.args.b c.args.width c.requires.first c.requires.second (rw c.in-Add.is at c.requires.has_width))

pub returns-in-Sub : goal.returns-in-Sub
returns-in-Sub c =
    rw (c.in-Sub.is, c.signed_form-in-Sub.ensures) (difference_form c.args.a c.args.b c.args.width c.requires.first c.requires.second (rw c.in-Sub.is at c.requires.has_width))

pub returns-in-Mul : goal.returns-in-Mul
returns-in-Mul c =
    rw (c.in-Mul.is, c.signed_form-in-Mul.ensures) (product_form c.args.a c.args.b c.args.width c.requires.first c.requires.second (rw c.in-Mul.is at c.requires.has_width))

pub returns-in-Lt : goal.returns-in-Lt
returns-in-Lt c =
    rw (c.in-Lt.is, c.signed_form-in-Lt.ensures) (below_form c.args.a c.args.b c.args.width c.requires.first c.requires.second (rw c.in-Lt.is at c.requires.has_width))

pub returns-in-Leq : goal.returns-in-Leq
returns-in-Leq c =
    rw (c.in-Leq.is, c.signed_form-in-Leq.ensures) (at_most_form c.args.a c.args.b c.args.width c.requires.first c.requires.second (rw c.in-Leq.is at c.requires.has_width))

pub returns-in-Gt : goal.returns-in-Gt
returns-in-Gt c =
    rw (c.in-Gt.is, c.signed_form-in-Gt.ensures) (above_form c.args.a c.args.b c.args.width c.requires.first c.requires.second (rw c.in-Gt.is at c.requires.has_width))

pub returns-in-Geq : goal.returns-in-Geq
returns-in-Geq c =
    rw (c.in-Geq.is, c.signed_form-in-Geq.ensures) (at_least_form c.args.a c.args.b c.args.width c.requires.first c.requires.second (rw c.in-Geq.is at c.requires.has_width))
