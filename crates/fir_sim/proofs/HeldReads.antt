-- What is held at leaves and nodes is what the net reads there, where nodes have what they are worth.
use Rattle.std.proofs.Common.{◌≡◌, ℕ, zero, suc, ◌<◌, List, [], take, length, refl, sym, ap, ◌∙◌, arith, unwrap_or, length-take}
use Rattle.std.specs.Prelude.{slice_get, Option, Some}
use Rattle.fir_base.proofs.Elements.{there}
use Rattle.fir_bits.specs.Operators.{no_operand}
use Rattle.fir_bits.specs.declared.values.Num.{Num}
use Rattle.fir_net.specs.declared.reads.Read.{Read}
use Rattle.fir_net.specs.declared.reads.Read.TheVariants as read
use Rattle.fir_net.specs.declared.node.Node.{Node}
use Rattle.fir_net.specs.declared.net.FlatNet.{FlatNet}
use Rattle.fir_net.specs.working.IsNet.{CanRead, IsNet}
use Rattle.fir_net.specs.working.Laws.{NodesHaveTheirValues}
use Rattle.fir_net.specs.working.Settled.{value_at}
use Rattle.fir_net.proofs.NodeReads.{node_at, reads_can, can_more}
use Rattle.fir_work.specs.working.Numbers.{number_at, value_in}
use Rattle.fir_work.specs.working.NodeValues.{held_node}
use Rattle.fir_work.proofs.SameNodes.{held_is_value, node_same}

module _ (law : NodesHaveTheirValues) (net : FlatNet) (whole : IsNet net) (ns : List ℕ) where
  abbrev value : Read → Num
  value = value_in net ns

  abbrev env : ℕ → ℕ
  env = number_at ns

  -- nodes that have what they are worth
  module _ (meets : (k : ℕ) (n : Node) → slice_get net.nodes k ≡ Some n → value (read.Node k) ≡ held_node value n) where
    node_over : (k : ℕ) (n : Node) → slice_get net.nodes k ≡ Some n → ((i : ℕ) → i < k → i < length net.nodes → value (read.Node i) ≡ value_at net env (read.Node i)) → value (read.Node k) ≡ value_at net env (read.Node k)
    node_over k n at before =
        meets k n at
        ∙ node_same value (value_at net env) n (λ j r e. by r (reads_can net.leaves (take k net.nodes) n (node_at net.leaves net.nodes [] whole.nodes k n at) j r e))
        ∙ held_is_value net env n ∙ sym (ap (λ (o : Option Num). unwrap_or o no_operand) (law net env k n whole at))
      where
        by : (r : Read) → CanRead net.leaves (take k net.nodes) r → value r ≡ value_at net env r
        by (read.Leaf i) can = refl
        by (read.Node i) can = let long = length-take k net.nodes in before i (omega (arith, can, long)) (can_more net.leaves net.nodes k (read.Node i) can)

    below : (m k : ℕ) → k < m → k < length net.nodes → value (read.Node k) ≡ value_at net env (read.Node k)
    below zero k l within = absurd (omega (arith, l))
    below (suc m) k l within = let found = there net.nodes k within in node_over k found.0 found.1 (λ i less of. below m i (omega (arith, l, less)) of)

    pub what_is_read : (r : Read) → CanRead net.leaves net.nodes r → value r ≡ value_at net env r
    what_is_read (read.Leaf k) can = refl
    what_is_read (read.Node k) can = below (suc k) k (omega arith) can
