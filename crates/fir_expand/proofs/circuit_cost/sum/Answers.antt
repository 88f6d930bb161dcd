use Rattle.std.proofs.Common.{◌∙◌}
use Rattle.fir_expand.proofs.CostSums.{sum_more}
use Rattle.fir_expand.proofs.circuit_cost.sum.Goals as goal

pub loop-cost-preserved : goal.loop-cost-preserved
loop-cost-preserved c =
    c.saturating_add-sum.ensures ∙ sum_more c.args.costs.now c.loop-cost.cost-index 0 c.loop-cost.sum c.loop-cost-test.true c.loop-cost.invariant
