-- Orders of a net's leaves and nodes.
-- Each leaf and each node stands once, after all that it hangs on.
use Rattle.std.specs.Prelude.{◌≡◌, ℕ, ◌<◌, List, slice_get, Some}
use Rattle.fir_net.specs.declared.reads.Read.{Read}
use Rattle.fir_net.specs.declared.net.FlatNet.{FlatNet}
use Rattle.fir_net.specs.working.Dependence.{IsOf, Reads}

pub record IsOrder (net : FlatNet) (order : List Read) : Type 0 where
  pub only : (i : ℕ) (v : Read) → slice_get order i ≡ Some v → IsOf net v
  pub once : (i j : ℕ) (v : Read) → slice_get order i ≡ Some v → slice_get order j ≡ Some v → i ≡ j
  pub after : (i : ℕ) (v w : Read) → slice_get order i ≡ Some v → Reads net v w → (j : ℕ) × (j < i) × (slice_get order j ≡ Some w)
  pub all : (v : Read) → IsOf net v → (i : ℕ) × (slice_get order i ≡ Some v)
