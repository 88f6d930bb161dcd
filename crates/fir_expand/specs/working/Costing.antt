-- The cost that the code finds of a circuit.
use Rattle.std.specs.Prelude.{◌≡◌, ℕ, ◌≤◌}
use Rattle.fir_ast.specs.Circuits.{CircuitTree}
use Rattle.fir_type_table.specs.working.Saturated.{saturated}
use Rattle.fir_meaning.specs.CostGroup.{cost_limit}
use Rattle.fir_meaning.specs.Costs.{HasCost}

-- it stands still at 2^64 - 1
pub record IsCostOf (c : CircuitTree) (found : ℕ) : Type 0 where
  pub cost : ℕ
  pub has : HasCost c cost
  pub is : found ≡ saturated cost

-- the circuit costs no more than the limit
pub record HasCostWithin (c : CircuitTree) : Type 0 where
  pub cost : ℕ
  pub has : HasCost c cost
  pub small : cost ≤ cost_limit
