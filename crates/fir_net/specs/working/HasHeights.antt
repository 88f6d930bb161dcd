-- When no leaf of a net hangs on itself, said by heights: each leaf and each node stands higher than all that it hangs on.
use Rattle.std.specs.Prelude.{ℕ, ◌<◌}
use Rattle.fir_net.specs.declared.reads.Read.{Read}
use Rattle.fir_net.specs.declared.net.FlatNet.{FlatNet}
use Rattle.fir_net.specs.working.Dependence.{Reads}

pub record HasHeights (net : FlatNet) : Type 0 where
  pub height : Read → ℕ
  pub falls : (v w : Read) → Reads net v w → height w < height v
