-- When a value may stand in the place of a node that is to be put behind others: it has the node's type, its value is the node's whatever the values of leaves and of
-- the other nodes are, and it hangs on nothing on which the node does not.
use Rattle.std.specs.Prelude.{◌≡◌, ℕ, List, map, slice_get, Some}
use Rattle.fir_base.specs.Lists.{In}
use Rattle.fir_bits.specs.Operators.{outcome}
use Rattle.fir_bits.specs.declared.values.Num.{Num}
use Rattle.fir_net.specs.declared.leaf.Leaf.{Leaf}
use Rattle.fir_net.specs.declared.node.Node.{Node}
use Rattle.fir_net.specs.declared.node.Node.TheVariants as node
use Rattle.fir_net.specs.declared.reads.Read.{Read}
use Rattle.fir_net.specs.declared.reads.Read.TheVariants as read
use Rattle.fir_net.specs.working.Dependence.{node_reads, support_of}
use Rattle.fir_net.specs.working.IsNet.{CanRead, IsNode, node_type, read_type}
use Rattle.fir_net.specs.working.Values.{IsOfType, chosen}
use Rattle.fir_fold_rules.specs.declared.replacement.Replacement.{Replacement}
use Rattle.fir_fold_rules.specs.declared.replacement.Replacement.TheVariants as by

-- what a node computes from the values that it reads
abbrev pub computed : (Read → Num) → Node → Num
computed value (node.Literal v) = v
computed value (node.Operation o) = outcome o.op (map value o.reads) o.integers
computed value (node.Mux m) = chosen (node_type (node.Mux m)) (map value m.reads)

-- values of leaves and nodes: each that can be read has one of its type, and a node the one that it computes
pub record AreValues (leaves : List Leaf) (nodes : List Node) (value : Read → Num) : Type 0 where
  pub typed : (r : Read) → CanRead leaves nodes r → IsOfType (read_type leaves nodes r) (value r)
  pub each : (k : ℕ) (n : Node) → slice_get nodes k ≡ Some n → value (read.Node k) ≡ computed value n

-- one of these, or what the nodes among them read, or what those do, and so on
pub data IsWithin (nodes : List Node) (reads : List Read) : Read → Type 0 where
  among : (r : Read) → In reads r → IsWithin nodes reads r
  of_node : (k : ℕ) (r : Read) → IsWithin nodes reads (read.Node k) → In (node_reads (slice_get nodes k)) r → IsWithin nodes reads r

pub record IsReadFor (leaves : List Leaf) (nodes : List Node) (n : Node) (r : Read) : Type 0 where
  pub can : CanRead leaves nodes r
  pub has_type : read_type leaves nodes r ≡ node_type n
  pub same : (value : Read → Num) → AreValues leaves nodes value → value r ≡ computed value n
  pub within : IsWithin nodes (support_of n) r

pub record IsNodeFor (leaves : List Leaf) (nodes : List Node) (n m : Node) : Type 0 where
  pub whole : IsNode leaves nodes m
  pub has_type : node_type m ≡ node_type n
  pub same : (value : Read → Num) → AreValues leaves nodes value → computed value m ≡ computed value n
  pub within : (r : Read) → In (support_of m) r → IsWithin nodes (support_of n) r

abbrev pub Replaces : List Leaf → List Node → Node → Replacement → Type 0
Replaces leaves nodes n (by.Read r) = IsReadFor leaves nodes n r
Replaces leaves nodes n (by.Node m) = IsNodeFor leaves nodes n m
