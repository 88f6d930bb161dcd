-- The values of nodes, one behind the other: each is what the node makes of the values of all.
use Rattle.std.proofs.Common.{◌≡◌, ℕ, zero, suc, ◌+◌, ◌<◌, List, [], ◌∷◌, ◌++◌, length, refl, sym, ap, ◌∙◌, subst, arith, length-append, unwrap_or}
use Rattle.std.specs.Prelude.{slice_get, Option, Some}
use Rattle.fir_bits.specs.Operators.{no_operand}
use Rattle.fir_bits.specs.declared.values.Num.{Num}
use Rattle.fir_base.proofs.Elements.{get_left, get_behind}
use Rattle.fir_net.specs.declared.reads.Read.{Read}
use Rattle.fir_net.specs.declared.reads.Read.TheVariants as read
use Rattle.fir_net.specs.declared.leaf.Leaf.{Leaf}
use Rattle.fir_net.specs.declared.node.Node.{Node}
use Rattle.fir_net.specs.declared.net.FlatNet.{FlatNet}
use Rattle.fir_net.specs.working.Values.{read_value, node_value, values_from, values}
use Rattle.fir_net.specs.working.IsNet.{CanRead, AreNodes, IsNet}
use Rattle.fir_net.specs.working.Laws.{NodesHaveTheirValues}
use Rattle.fir_net.proofs.NodeReads.{same_node, reads_can}

module _ (leaves : List Leaf) (env : ℕ → ℕ) where
  -- what is known stays
  known_stays : (known : List Num) (ns : List Node) (k : ℕ) → k < length known → slice_get (values_from leaves env known ns) k ≡ slice_get known k
  unfolding values_from
  known_stays known [] k h = refl
  known_stays known (n ∷ ns) k h =
      let v = node_value leaves env known n in
      let longer : k < length (known ++ v ∷ []) = simp length-append (omega (arith, h)) in
      known_stays (known ++ v ∷ []) ns k longer ∙ get_left known (v ∷ []) k h

  -- what was read of the nodes before is what is read of all
  read_stays : (before ns : List Node) (known : List Num) → length known ≡ length before → (r : Read) → CanRead leaves before r → read_value leaves env known r ≡ read_value leaves env (values_from leaves env known ns) r
  read_stays before ns known long (read.Leaf k) can = refl
  read_stays before ns known long (read.Node k) can = ap (λ (o : Option Num). unwrap_or o no_operand) (sym (known_stays known ns k (omega (arith, can, long))))

  value_here : (known : List Num) (n : Node) (ns : List Node) → slice_get (values_from leaves env known (n ∷ ns)) (length known) ≡ Some (node_value leaves env known n)
  unfolding values_from
  value_here known n ns =
      let v = node_value leaves env known n in
      let longer : length known < length (known ++ v ∷ []) = simp length-append (omega arith) in
      known_stays (known ++ v ∷ []) ns (length known) longer ∙ get_behind known [] v

  value_of : (before ns : List Node) (known : List Num) → length known ≡ length before → AreNodes leaves before ns → (k : ℕ) (n : Node) → slice_get ns k ≡ Some n
      → slice_get (values_from leaves env known ns) (length known + k) ≡ Some (node_value leaves env (values_from leaves env known ns) n)
  unfolding values_from
  value_of before [] known long are k n e = cc
  value_of before (m ∷ ns) known long are zero n e =
      let v = node_value leaves env known m in
      let all = values_from leaves env known (m ∷ ns) in
      let same : m ≡ n = cc in
      let is : v ≡ node_value leaves env all m = same_node leaves env env known all m (λ j r at. read_stays before (m ∷ ns) known long r (reads_can leaves before m are.0 j r at)) in
      let place : length known + 0 ≡ length known = omega arith in
      rw place (value_here known m ns ∙ ap Some (is ∙ ap (node_value leaves env all) same))
  value_of before (m ∷ ns) known long are (suc k) n e =
      let v = node_value leaves env known m in
      let all = values_from leaves env (known ++ v ∷ []) ns in
      let both : length (known ++ v ∷ []) ≡ length (before ++ m ∷ []) = simp length-append (omega (arith, long)) in
      let place : length (known ++ v ∷ []) + k ≡ length known + suc k = simp length-append (omega arith) in
      subst (λ (i : ℕ). slice_get all i ≡ Some (node_value leaves env all n)) place (value_of (before ++ m ∷ []) ns (known ++ v ∷ []) both are.1 k n e)

pub nodes_have : NodesHaveTheirValues
nodes_have net env k n whole at =
    let place : 0 + k ≡ k = omega arith in
    subst (λ (i : ℕ). slice_get (values net env) i ≡ Some (node_value net.leaves env (values net env) n)) place
    (value_of net.leaves env [] net.nodes [] refl whole.nodes k n at)

-- a node's value, as it is read
pub node_is : (net : FlatNet) (env : ℕ → ℕ) (k : ℕ) (n : Node) → IsNet net → slice_get net.nodes k ≡ Some n → read_value net.leaves env (values net env) (read.Node k) ≡ node_value net.leaves env (values net env) n
node_is net env k n whole at = ap (λ (o : Option Num). unwrap_or o no_operand) (nodes_have net env k n whole at)
