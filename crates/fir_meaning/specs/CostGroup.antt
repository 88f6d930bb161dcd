-- The group of costs: E23, a circuit that costs more than the limit of this compiler (the standard has none). It stands at the circuit's name.
use Rattle.std.specs.Prelude.{◌≡◌, ℕ, ◌-◌, ◌^◌, ◌<◌, ◌++◌, min, codes, decimal}
use Rattle.fir_ast.specs.Circuits.{CircuitTree}
use Rattle.fir_ast.specs.Faults.{E23, Fault}
use Rattle.fir_pass.specs.Groups.{Group, any_of}
use Rattle.fir_meaning.specs.Costs.{HasCost}

abbrev pub cost_limit : ℕ
cost_limit = 4194304

-- the cost is printed as it is, or as 2^64 - 1 where it is more
abbrev pub cost_fault : CircuitTree → ℕ → Fault
cost_fault c n = record { code = E23; place = c.named.place; evidence = codes "cost " ++ decimal (min n (2 ^ 64 - 1)) }

pub record ShowsCost (c : CircuitTree) (f : Fault) : Type 0 where
  pub cost : ℕ
  pub has : HasCost c cost
  pub over : cost_limit < cost
  pub is : f ≡ cost_fault c cost

-- names that stand leave a circuit one cost, so one fault at most is told
abbrev pub cost_group : CircuitTree → Group
cost_group c = any_of (ShowsCost c)
