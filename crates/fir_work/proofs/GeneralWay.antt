-- The task of a node in the general way: in a whole net, what the node reads is there, and it has a type over that.
use Rattle.std.proofs.Common.{◌≡◌, ℕ, ◌≤◌, List, [], ◌∷◌, map, Ok, refl, ap, ◌∙◌, arith}
use Rattle.std.specs.Prelude.{slice_get, Option, Some}
use Rattle.std.specs.List.{AllByRecursion}
use Rattle.std.proofs.lemmas.Result.{IfOk-at_ok}
use Rattle.std.proofs.lemmas.List.Elements.{All-from_recursion}
use Rattle.fir_base.proofs.Elements.{all_there}
use Rattle.fir_bits.specs.Values.{IsBitVector}
use Rattle.fir_bits.specs.working.Types.{typed}
use Rattle.fir_bits.specs.Operators.{applied, outcome}
use Rattle.fir_bits.specs.working.Operators.{type_of}
use Rattle.fir_bits.specs.declared.types.NumTy.{NumTy}
use Rattle.fir_bits.specs.declared.values.Num.{Num}
use Rattle.fir_bits.proofs.Typing.{typed-outcome}
use Rattle.fir_net.specs.declared.reads.Read.{Read}
use Rattle.fir_net.specs.declared.node.Mux.{Mux}
use Rattle.fir_net.specs.declared.node.Operation.{Operation}
use Rattle.fir_net.specs.declared.node.Node.{Node}
use Rattle.fir_net.specs.declared.node.Node.TheVariants as node
use Rattle.fir_net.specs.declared.net.FlatNet.{FlatNet}
use Rattle.fir_net.specs.working.Dependence.{support_of}
use Rattle.fir_net.specs.working.IsNet.{CanRead, IsChoice, IsNet, IsNode, IsOperation, node_type}
use Rattle.fir_net.proofs.WholeNodes.{all_nodes}
use Rattle.fir_work.specs.declared.work.Work.TheVariants as work
use Rattle.fir_work.specs.working.NodeValues.{HasType, NodeHasType, held_node_at}
use Rattle.fir_work.specs.working.Numbers.{Fits, type_read, value_in}
use Rattle.fir_work.specs.working.Tasks.{IsNodeTask}
use Rattle.fir_work.specs.working.Works.{CanCompute, IsThere}
use Rattle.fir_work.proofs.WholeReads.{read_narrow, reads_there}

-- a node of a whole net is one over all nodes
pub node_whole : (net : FlatNet) → IsNet net → (k : ℕ) (n : Node) → slice_get net.nodes k ≡ Some n → IsNode net.leaves net.nodes n
node_whole net whole k n at = all_there (IsNode net.leaves net.nodes) net.nodes (all_nodes net.leaves net.nodes whole.nodes) k n at

module _ (net : FlatNet) (whole : IsNet net) (ns : List ℕ) where
  values_whole : (rs : List Read) → AllByRecursion (IsThere net ns) rs → AllByRecursion (λ (v : Num). IsBitVector v.value) (map (value_in net ns) rs)
  values_whole [] there = tt
  values_whole (r ∷ rs) there = (there.0.whole, values_whole rs there.1)

  types_read : (rs : List Read) → map type_of (map (value_in net ns) rs) ≡ map (type_read net) rs
  types_read [] = refl
  types_read (r ∷ rs) = ap (λ (ts : List NumTy). type_read net r ∷ ts) (types_read rs)

  operation_typed : (o : Operation) → IsOperation net.leaves net.nodes o → AllByRecursion (IsThere net ns) o.reads → HasType (value_in net ns) o
  operation_typed o is there =
      let args = map (value_in net ns) o.reads in
      let t : typed o.op (map type_of args) o.integers ≡ Ok (node_type (node.Operation o)) =
      ap (λ (ts : List NumTy). typed o.op ts o.integers) (types_read o.reads) ∙ is.has_type in
      let r = IfOk-at_ok (λ (u : NumTy). IsBitVector (applied o.op args o.integers) × (type_of (outcome o.op args o.integers) ≡ u)) t
      (typed-outcome o.op args o.integers (All-from_recursion (λ (a : Num). IsBitVector a.value) args (values_whole o.reads there))) in
      record { has_type = rw t refl; kind = ap (λ (u : NumTy). u.signed) r.1 }

  mux_narrow : (m : Mux) → (rs : List Read) → AllByRecursion (CanRead net.leaves net.nodes) rs → IsChoice (node_type (node.Mux m)) (map (type_read net) rs) → m.width ≤ 128
  mux_narrow m [] can is = absurd is
  mux_narrow m (c ∷ []) can is = absurd is
  mux_narrow m (c ∷ a ∷ []) can is = absurd is
  mux_narrow m (c ∷ a ∷ b ∷ []) can is =
      let first = read_narrow net whole a can.1.0 in
      let second = read_narrow net whole b can.1.1.0 in
      let greater = is.3 in
      omega arith
  mux_narrow m (c ∷ a ∷ b ∷ d ∷ rs) can is = absurd is

  node_typed : (n : Node) → IsNode net.leaves net.nodes n → AllByRecursion (IsThere net ns) (support_of n) → NodeHasType (value_in net ns) n
  node_typed (node.Literal v) is there = tt
  node_typed (node.Operation o) is there = operation_typed o is there
  node_typed (node.Mux m) is there = mux_narrow m m.reads is.reads is.has_type

  support_can : (n : Node) → IsNode net.leaves net.nodes n → AllByRecursion (CanRead net.leaves net.nodes) (support_of n)
  support_can (node.Literal v) is = tt
  support_can (node.Operation o) is = is.reads
  support_can (node.Mux m) is = is.reads

  can_compute : (k : ℕ) (n : Node) → slice_get net.nodes k ≡ Some n → AllByRecursion (Fits net ns) (support_of n) → CanCompute net ns k
  can_compute k n at fits =
      let is = node_whole net whole k n at in
      let there = reads_there net whole ns (support_of n) (support_can n is) fits in
      record { node = n; is = at; reads = there; has_type = node_typed n is there }

pub general_task : (net : FlatNet) → IsNet net → (k : ℕ) (n : Node) → slice_get net.nodes k ≡ Some n
    → IsNodeTask net n (record { first = 0; second = 0; third = 0; work = work.Node k })
general_task net whole k n at = record {
  runs = λ ns fits. can_compute net whole ns k n at fits;
  gives = λ ns fits. ap (λ (o : Option Node). (held_node_at (value_in net ns) o).value.number) at;
}
