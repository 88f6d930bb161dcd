-- A node among nodes of which no two are equal.
use Rattle.std.specs.Prelude.{◌≡◌, ℕ, List, [], ◌∷◌, ◌++◌, slice_get, Some, ◌⊎◌}
use Rattle.fir_net.specs.declared.node.Node.{Node}

-- the nodes stay, or get the node behind them, which then has this number; where it was among them they stay
pub record Shares (old new : List Node) (node : Node) (k : ℕ) : Type 0 where
  pub keeps : (new ≡ old) ⊎ (new ≡ old ++ node ∷ [])
  pub stands : slice_get new k ≡ Some node
  pub once : (j : ℕ) → slice_get old j ≡ Some node → new ≡ old
