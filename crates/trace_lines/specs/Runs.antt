-- The state that a run leaves.
use Rattle.std.specs.Prelude.{ℕ, List, [], ◌∷◌}
use Rattle.fir_base.specs.Ticks.{TickResult}

-- the state after what was shown
unfoldable pub last_state : List ℕ → List TickResult → List ℕ
last_state init [] = init
last_state init (shown ∷ rest) = last_state shown.state rest
