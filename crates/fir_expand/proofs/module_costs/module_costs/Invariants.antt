use Rattle.fir_ast.specs.working.Views.{circuit_of}
use Rattle.fir_expand.proofs.CostsInOrder.{CostsSoFar}
use Rattle.fir_expand.proofs.module_costs.module_costs.Given as goal

abbrev pub invariant-loop-number : goal.invariant-loop-number
invariant-loop-number l = CostsSoFar (circuit_of l.named) l.order l.costs.items l.number-index
