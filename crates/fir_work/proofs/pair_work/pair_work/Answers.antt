use Rattle.std.proofs.Common.{arith}
use Rattle.fir_work.proofs.PairForms.{cat_form, same_form, differ_form}
use Rattle.fir_work.proofs.pair_work.pair_work.Goals as goal

pub returns-in-Cat : goal.returns-in-Cat
returns-in-Cat c = rw c.in-Cat.is (cat_form c.args.a c.args.b c.args.width (rw c.in-Cat.is at c.requires) (omega arith))

pub returns-in-Eq : goal.returns-in-Eq
returns-in-Eq c = rw c.in-Eq.is (same_form c.args.a c.args.b c.args.width (rw c.eq-alike.ensures at c.if-alike.true))

pub returns-in-Neq : goal.returns-in-Neq
returns-in-Neq c = rw c.in-Neq.is (differ_form c.args.a c.args.b c.args.width (rw c.eq-alike.ensures at c.if-alike-2.true))
