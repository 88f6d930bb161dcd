-- Numbers of a whole net: that of each leaf and each node at its place, of its width.
use Rattle.std.specs.Prelude.{◌≡◌, ℕ, ◌+◌, List, length}
use Rattle.fir_net.specs.declared.reads.Read.{Read}
use Rattle.fir_net.specs.declared.net.FlatNet.{FlatNet}
use Rattle.fir_net.specs.working.Dependence.{IsOf}
use Rattle.fir_work.specs.working.Numbers.{Fits}

pub record IsHeld (net : FlatNet) (ns : List ℕ) : Type 0 where
  pub room : length ns ≡ length net.leaves + length net.nodes
  pub fits : (v : Read) → IsOf net v → Fits net ns v
