-- Directed graphs.
-- A graph is the list of each vertex's targets; vertices are numbers.
use Rattle.std.specs.Prelude.{◌≡◌, ℕ, List, slice_get, Some}

-- w is a target of v
pub record HasTarget (targets : ℕ → List ℕ) (v w : ℕ) : Type 0 where
  pub place : ℕ
  pub is : slice_get (targets v) place ≡ Some w
