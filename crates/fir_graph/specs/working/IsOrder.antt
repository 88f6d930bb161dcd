-- Orders of the vertices of a graph.
-- Each vertex stands once, behind all its targets.
use Rattle.std.specs.Prelude.{◌≡◌, ℕ, ◌<◌, List, slice_get, Some}
use Rattle.fir_graph.specs.working.HasTarget.{HasTarget}

pub record IsOrder (size : ℕ) (targets : ℕ → List ℕ) (order : List ℕ) : Type 0 where
  pub only : (i v : ℕ) → slice_get order i ≡ Some v → v < size
  pub once : (i j v : ℕ) → slice_get order i ≡ Some v → slice_get order j ≡ Some v → i ≡ j
  pub after : (i v w : ℕ) → slice_get order i ≡ Some v → HasTarget targets v w → (j : ℕ) × (j < i) × (slice_get order j ≡ Some w)
  pub all : (v : ℕ) → v < size → (i : ℕ) × (slice_get order i ≡ Some v)
