use Rattle.std.proofs.Common.{◌≡◌, map, take}
use Rattle.fir_ast.specs.working.Views.{circuit_of}
use Rattle.fir_type_table.specs.working.Saturated.{saturated}
use Rattle.fir_expand.specs.working.OwnCosts.{own_cost}
use Rattle.fir_expand.proofs.own_costs.own_costs.Given as goal

abbrev pub invariant-loop-number : goal.invariant-loop-number
invariant-loop-number l =
    l.costs.items ≡ map (λ m. saturated (own_cost (circuit_of l.named).modules m)) (take l.number (circuit_of l.named).modules)
