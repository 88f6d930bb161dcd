use Rattle.std.proofs.Common.{◌≡◌, take}
use Rattle.fir_type_table.specs.working.Saturated.{saturated}
use Rattle.fir_meaning.specs.Costs.{sum_of}
use Rattle.fir_expand.proofs.circuit_cost.sum.Given as goal

abbrev pub invariant-loop-cost : goal.invariant-loop-cost
invariant-loop-cost l = l.sum ≡ saturated (sum_of (take l.cost-index l.costs))
