-- Laws about costs.
use Rattle.std.specs.Prelude.{◌≡◌, ℕ}
use Rattle.fir_ast.specs.Circuits.{CircuitTree}
use Rattle.fir_meaning.specs.working.NameGroups.{HasNames}
use Rattle.fir_meaning.specs.Costs.{HasCost}

-- a circuit whose names stand has one cost at most
abbrev pub HasOneCost : Type 0
HasOneCost = (c : CircuitTree) (m n : ℕ) → HasNames c → HasCost c m → HasCost c n → m ≡ n
