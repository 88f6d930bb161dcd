-- Which nets are folded: no operator has literals alone as operands, and no mux a literal as its condition.
use Rattle.std.specs.Prelude.{◌≡◌, ℕ, slice_get, Some}
use Rattle.fir_bits.specs.declared.values.Num.{Num}
use Rattle.fir_net.specs.declared.leaf.Leaf.{Leaf}
use Rattle.fir_net.specs.declared.net.FlatNet.{FlatNet}
use Rattle.fir_net.specs.declared.node.Mux.{Mux}
use Rattle.fir_net.specs.declared.node.Node.TheVariants as node
use Rattle.fir_net.specs.declared.node.Operation.{Operation}
use Rattle.fir_net.specs.declared.reads.Read.{Read}
use Rattle.fir_net.specs.declared.reads.Read.TheVariants as read
use Rattle.fir_net.specs.working.Settled.{driver}

-- a literal, or an output or a wire that one drives
pub data IsLiteral (net : FlatNet) : Read → Type 0 where
  of_node : (k : ℕ) (v : Num) → slice_get net.nodes k ≡ Some (node.Literal v) → IsLiteral net (read.Node k)
  of_leaf : (k : ℕ) (l : Leaf) (r : Read) → slice_get net.leaves k ≡ Some l → driver l.role ≡ Some r → IsLiteral net r → IsLiteral net (read.Leaf k)

pub record IsFolded (net : FlatNet) : Type 0 where
  pub operations :
      (k : ℕ) (o : Operation) → slice_get net.nodes k ≡ Some (node.Operation o)
      → ((i : ℕ) (r : Read) → slice_get o.reads i ≡ Some r → IsLiteral net r) → ⊥
  pub muxes : (k : ℕ) (m : Mux) (c : Read) → slice_get net.nodes k ≡ Some (node.Mux m) → slice_get m.reads 0 ≡ Some c → IsLiteral net c → ⊥
