-- In a whole net each node reads nodes before it, and so stands for what it makes of the terms of all nodes.
use Rattle.std.proofs.Common.{◌≡◌, ℕ, suc, List, [], ◌∷◌, ◌++◌, length, Some, subst, arith, length-append}
use Rattle.std.specs.Prelude.{slice_get}
use Rattle.std.specs.List.{AllByRecursion}
use Rattle.fir_net.specs.declared.leaf.Leaf.{Leaf}
use Rattle.fir_net.specs.declared.net.FlatNet.{FlatNet}
use Rattle.fir_net.specs.declared.node.Node.{Node}
use Rattle.fir_net.specs.declared.node.Node.TheVariants as node
use Rattle.fir_net.specs.declared.reads.Read.{Read}
use Rattle.fir_net.specs.declared.reads.Read.TheVariants as read
use Rattle.fir_net.specs.working.Dependence.{support_of}
use Rattle.fir_net.specs.working.IsNet.{AreNodes, CanRead, IsNet, IsNode}
use Rattle.fir_merge.specs.working.NodeTerms.{AreBelow, IsBelow, ReadBefore, node_term, terms}
use Rattle.fir_merge.proofs.GrownTerms.{node_there}
use Rattle.fir_flat.specs.working.FlatCircuits.{stands_for}

module _ (leaves : List Leaf) where
  below : (before : List Node) (r : Read) → CanRead leaves before r → IsBelow (length before) r
  below before (read.Leaf x) can = tt
  below before (read.Node k) can = can

  each_below : (before : List Node) (rs : List Read) → AllByRecursion (CanRead leaves before) rs → AreBelow (length before) rs
  each_below before [] can = tt
  each_below before (r ∷ rs) can = (below before r can.0, each_below before rs can.1)

  support_below : (before : List Node) (n : Node) → IsNode leaves before n → AreBelow (length before) (support_of n)
  support_below before (node.Literal v) is = tt
  support_below before (node.Operation o) is = each_below before o.reads is.reads
  support_below before (node.Mux m) is = each_below before m.reads is.reads

  read_before : (before ns : List Node) → AreNodes leaves before ns → ReadBefore (length before) ns
  read_before before [] are = tt
  read_before before (n ∷ ns) are =
      let long : length (before ++ n ∷ []) ≡ suc (length before) = omega (arith, length-append before (n ∷ [])) in
      (support_below before n are.0, subst (λ (k : ℕ). ReadBefore k ns) long (read_before (before ++ n ∷ []) ns are.1))

pub node_stands : (net : FlatNet) → IsNet net → (k : ℕ) (n : Node) → slice_get net.nodes k ≡ Some n
    → stands_for net.nodes (read.Node k) ≡ node_term (terms net.nodes) n
node_stands net whole k n at = node_there net.nodes k n (read_before net.leaves [] net.nodes whole.nodes) at
