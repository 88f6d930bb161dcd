use Rattle.std.proofs.Common.{ap, subst, ◌∙◌}
use Rattle.fir_ast.specs.working.Views.{circuit_of}
use Rattle.fir_type_table.specs.working.Saturated.{saturated}
use Rattle.fir_meaning.specs.Costs.{sum_of}
use Rattle.fir_expand.specs.working.OwnCosts.{AreCostsByNumber}
use Rattle.fir_expand.proofs.CostSums.{cost_found}
use Rattle.fir_expand.proofs.circuit_cost.cost.Goals as goal

pub returns : goal.returns
returns c =
    let costs = c.in_ok-costs.costs.items in
    let tree = c.named-named.ensures.tree ∙ c.typed.ensures.tree in
    cost_found (circuit_of c.args.fitted.now) costs c.sum.result (subst (λ t. AreCostsByNumber (circuit_of t) costs) tree c.in_ok-costs.ensures)
    (c.sum.ensures ∙ ap (λ l. saturated (sum_of l)) c.as_slice-2.ensures.value)
