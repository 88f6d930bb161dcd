use Rattle.std.proofs.Common.{eq-eqb, length}
use Rattle.std.proofs.lemmas.Bool.{eqb-true}
use Rattle.fir_infer_resets.proofs.SharedSteps.{all_shared, shares_all}
use Rattle.fir_infer_resets.proofs.element_paths.are_same.Goals as goal

pub returns-then-one-other : goal.returns-then-one-other
returns-then-one-other c =
    let one = c.args.one.now in
    let other = c.args.other.now in
    let n = c.shared_steps.result in
    let shared = c.shared_steps.ensures in (
      (λ all. all_shared one other n shared.shared c.if-one-other.true (eqb-true n (length one) all)),
      (λ same. eq-eqb n (length one) (shares_all one other n shared.shared shared.most same)),
    )
