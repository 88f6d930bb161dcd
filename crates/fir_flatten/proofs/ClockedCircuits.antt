-- What a net has of the clocks of its circuit: which leaf gives a clock leaf its clock, and which clocks the ports of its arrays have.
use Rattle.std.proofs.Common.{◌≡◌, ◌⊎◌, ℕ, ◌<◌, length, slice_get, Some}
use Rattle.fir_base.specs.Lists.{In}
use Rattle.fir_ast.specs.declared.statements.ReadUnderWrite.{ReadUnderWrite}
use Rattle.fir_meaning.specs.working.LeafCircuits.{LeafCircuit}
use Rattle.fir_meaning.specs.working.LeafModules.{LeafArray, Reading, Writing}
use Rattle.fir_connect.specs.working.CircuitModules.{as_module}
use Rattle.fir_connect.specs.working.NetRoles.{computed, driven, net_role_at, pipe, source}
use Rattle.fir_connect.specs.working.NetTerms.{leaf}
use Rattle.fir_net.specs.declared.array.Array.{Array}
use Rattle.fir_net.specs.declared.array.ArrayWrite.{ArrayWrite}
use Rattle.fir_net.specs.declared.array.Pipe.{Pipe}
use Rattle.fir_net.specs.declared.leaf.Leaf.{Leaf}
use Rattle.fir_net.specs.declared.leaf.Role.TheVariants as role
use Rattle.fir_net.specs.declared.net.FlatNet.{FlatNet}
use Rattle.fir_net.specs.working.Settled.{clock_driver}

-- something writes the array of a number at the edges of a clock leaf
pub record HasWrite (c : LeafCircuit) (k clock : ℕ) : Type 0 where
  pub array : LeafArray
  pub at : slice_get c.arrays k ≡ Some array
  pub writing : Writing
  pub among : In array.writings writing
  pub clock_is : writing.clock ≡ clock

-- a leaf, which is no port, reads it there
pub record HasPipe (c : LeafCircuit) (ports k clock : ℕ) : Type 0 where
  pub leaf : ℕ
  pub within : leaf < length c.leaves
  pub inner : leaf < ports → ⊥
  pub reading : Reading
  pub under : ReadUnderWrite
  pub is : net_role_at (as_module c) leaf ≡ pipe reading clock under
  pub array_is : reading.array ≡ k

pub record IsClockedAs (c : LeafCircuit) (ports : ℕ) (net : FlatNet) : Type 0 where
  pub input : (k : ℕ) (l : Leaf) → slice_get net.leaves k ≡ Some l → l.role ≡ role.Clock → net_role_at (as_module c) k ≡ source
  pub driven :
      (k j : ℕ) (l : Leaf) → slice_get net.leaves k ≡ Some l → clock_driver l.role ≡ Some (Some j)
      → (net_role_at (as_module c) k ≡ driven (leaf j)) ⊎ (net_role_at (as_module c) k ≡ computed (leaf j))
  pub writes :
      (k n : ℕ) (a : Array) (w : ArrayWrite) → slice_get net.arrays k ≡ Some a → slice_get a.writes n ≡ Some w → HasWrite c k w.clock
  pub pipes : (k : ℕ) (l : Leaf) (p : Pipe) → slice_get net.leaves k ≡ Some l → l.role ≡ role.Pipe p → HasPipe c ports p.read.array p.clock
