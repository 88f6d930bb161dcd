use Rattle.std.proofs.Common.{false, subst}
use Rattle.std.specs.Prelude.{IsTrue}
use Rattle.fir_ast.specs.working.Views.{circuit_of}
use Rattle.fir_infer_resets.specs.working.Holding.{path_of}
use Rattle.fir_infer_resets.proofs.MetSteps.{where_ok, at_ok}
use Rattle.fir_infer_resets.proofs.ScalarsMet.{no_reset_met, no_left_met, no_right_met, both_met}
use Rattle.fir_infer_resets.proofs.pairs.Sides.join_scalars.Goals as goal

pub returns-then-not-has_reset : goal.returns-then-not-has_reset
returns-then-not-has_reset c = λ t u e f.
    let s = c.args.self.now in
    no_reset_met (circuit_of s.named.now) s.module_number s.left s.right (path_of c.args.steps.now) t u c.args.one c.args.other c.args.joined.now e f
    (λ h. let k : IsTrue false = subst IsTrue c.if-not-has_reset.true (c.has_reset.ensures.1 h) in cc)

pub returns-in_default : goal.returns-in_default
returns-in_default c = λ t u e f.
    let s = c.args.self.now in
    no_left_met (circuit_of s.named.now) s.module_number s.left s.right (path_of c.args.steps.now) t u c.args.joined.now c.end.new.joined c.in_ok-x.x c.in_default.is
    (λ js before leaves. c.in_ok-x.ensures js before t e leaves)

pub returns-in_default-y : goal.returns-in_default-y
returns-in_default-y c = λ t u e f.
    let s = c.args.self.now in
    no_right_met (circuit_of s.named.now) s.module_number s.left s.right (path_of c.args.steps.now) t u c.args.joined.now c.end.new.joined c.end-2.new.joined
    c.in_ok-x.x c.in_ok-y.y c.in-Some.x c.in-Some.is c.in_default-y.is (λ js before leaves. c.in_ok-x.ensures js before t e leaves)
    (λ js before leaves. c.in_ok-y.ensures js before u f leaves)

pub returns : goal.returns
returns c = λ t u e f.
    let s = c.args.self.now in
    where_ok c.join.result _ (λ x is.
    both_met (circuit_of s.named.now) s.module_number s.left s.right (path_of c.args.steps.now) t u c.args.one c.args.other c.args.joined.now c.end.new.joined
    c.end-2.new.joined c.join.new.self c.in_ok-x.x c.in_ok-y.y c.in-Some.x c.in-Some-y.y e f (c.has_reset.ensures.0 c.if-not-has_reset.false) c.in-Some.is c.in-Some-y.is
    (λ js before leaves. c.in_ok-x.ensures js before t e leaves) (λ js before leaves. c.in_ok-y.ensures js before u f leaves)
    (λ js before d g at at_other joined resets. at_ok c.join.result _ x is (c.join.ensures (circuit_of s.named.now) js before d g at at_other joined resets)))
