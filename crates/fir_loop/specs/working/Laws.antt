-- Laws about the definitions.
use Rattle.std.specs.Prelude.{ℕ, List}
use Rattle.fir_net.specs.declared.net.FlatNet.{FlatNet}
use Rattle.fir_net.specs.working.HasHeights.{HasHeights}
use Rattle.fir_loop.specs.working.IsLoop.{IsLoop}

-- where each leaf and each node stands higher than all that it hangs on, there is no closed walk
abbrev pub HeightsHaveNoLoop : Type 0
HeightsHaveNoLoop = (net : FlatNet) (walk : List ℕ) → HasHeights net → IsLoop net walk → ⊥
