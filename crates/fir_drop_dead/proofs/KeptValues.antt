-- What is read of kept leaves and nodes has the same value, for all values of the leaves.
use Rattle.std.proofs.Common.{◌≡◌, ℕ, zero, suc, ◌<◌, List, [], ◌∷◌, map, take, Some, true, refl, ap, ap₂, sym, ◌∙◌, subst, arith, inl, inr, unwrap_or, length-take}
use Rattle.std.specs.Prelude.{slice_get, Option}
use Rattle.fir_base.specs.Lists.{In}
use Rattle.fir_base.proofs.Elements.{number_of, there}
use Rattle.fir_bits.specs.Operators.{no_operand, outcome}
use Rattle.fir_bits.specs.declared.values.Num.{Num}
use Rattle.fir_net.specs.declared.net.FlatNet.{FlatNet}
use Rattle.fir_net.specs.declared.node.Node.{Node}
use Rattle.fir_net.specs.declared.node.Node.TheVariants as node
use Rattle.fir_net.specs.declared.reads.Read.{Read}
use Rattle.fir_net.specs.declared.reads.Read.TheVariants as read
use Rattle.fir_net.specs.working.Dependence.{node_reads, support_of}
use Rattle.fir_net.specs.working.IsNet.{CanRead, IsNet, node_type}
use Rattle.fir_net.specs.working.Laws.{NodesHaveTheirValues}
use Rattle.fir_net.specs.working.Settled.{value_at}
use Rattle.fir_net.specs.working.Values.{chosen, node_value, number_of as of_type, read_value, values}
use Rattle.fir_net.proofs.NodeReads.{node_at, reads_can}
use Rattle.fir_equivalence.specs.working.Rewrites.{renumbered}
use Rattle.fir_drop_dead.specs.working.Marks.{Marked, has, mark_at}
use Rattle.fir_drop_dead.specs.working.Moved.{kept_net, moved_node, moved_read}
use Rattle.fir_drop_dead.specs.working.Needed.{AreMarked, AreNeeded}
use Rattle.fir_drop_dead.specs.working.Numbers.{number, place}
use Rattle.fir_drop_dead.proofs.KeptDependence.{of_net}
use Rattle.fir_drop_dead.proofs.KeptItems.{number_place}
use Rattle.fir_drop_dead.proofs.KeptLeaves.{leaf_type_moved, moved_there}
use Rattle.fir_drop_dead.proofs.KeptWhole.{kept_whole}

map_moved : {A : Type 0} → (m : Marked) (f g : Read → A) (rs : List Read) → ((r : Read) → In rs r → f (moved_read m r) ≡ g r) → map f (map (moved_read m) rs) ≡ map g rs
map_moved m f g [] h = refl
map_moved m f g (r ∷ rs) h = λ i. h r (inl refl) i ∷ map_moved m f g rs (λ s n. h s (inr n)) i

module _ (law : NodesHaveTheirValues) (net : FlatNet) (whole : IsNet net) (m : Marked) (are : AreNeeded net m) (env : ℕ → ℕ) where
  abbrev other : FlatNet
  other = kept_net m net

  abbrev new_env : ℕ → ℕ
  new_env = renumbered (number m.leaves) env

  abbrev old_value : Read → Num
  old_value = read_value net.leaves env (values net env)

  abbrev new_value : Read → Num
  new_value = read_value other.leaves new_env (values other new_env)

  leaf_same : (k : ℕ) → mark_at m.leaves k ≡ true → new_value (read.Leaf (place m.leaves k)) ≡ old_value (read.Leaf k)
  leaf_same k h =
      let l = there net.leaves k (of_net net m are (read.Leaf k) h) in
      ap₂ of_type (leaf_type_moved net m net.nodes other.nodes k l.0 l.1 h) (ap env (number_place m.leaves k h))

  node_alike : (n : Node) → ((r : Read) → In (support_of n) r → new_value (moved_read m r) ≡ old_value r)
      → node_value other.leaves new_env (values other new_env) (moved_node m n) ≡ node_value net.leaves env (values net env) n
  node_alike (node.Literal v) h = refl
  node_alike (node.Operation o) h = ap (λ (xs : List Num). outcome o.op xs o.integers) (map_moved m new_value old_value o.reads h)
  node_alike (node.Mux x) h = ap (chosen (node_type (node.Mux x))) (map_moved m new_value old_value x.reads h)

  abbrev IsSame : ℕ → Type 0
  IsSame k = mark_at m.nodes k ≡ true → slice_get (values other new_env) (place m.nodes k) ≡ slice_get (values net env) k

  -- a node, by the nodes before it, which are all that it reads
  module _ (k : ℕ) (n : Node) (at : slice_get net.nodes k ≡ Some n) (h : mark_at m.nodes k ≡ true) (before : (j : ℕ) → j < k → IsSame j) where
    before_same : (r : Read) → CanRead net.leaves (take k net.nodes) r → has m r ≡ true → new_value (moved_read m r) ≡ old_value r
    before_same (read.Leaf j) can g = leaf_same j g
    before_same (read.Node j) can g =
        let long = length-take k net.nodes in
        ap (λ (o : Option Num). unwrap_or o no_operand) (before j (omega (arith, can, long)) g)

    read_same : (r : Read) → In (support_of n) r → new_value (moved_read m r) ≡ old_value r
    read_same r among =
        let there = number_of (support_of n) r among in
        let marked = subst (λ (o : Option Node). AreMarked m (node_reads o)) at (are.closed (read.Node k) h) in
        before_same r (reads_can net.leaves (take k net.nodes) n (node_at net.leaves net.nodes [] whole.nodes k n at) there.0 r there.1) (marked r among)

    one_same : slice_get (values other new_env) (place m.nodes k) ≡ slice_get (values net env) k
    one_same =
        law other new_env (place m.nodes k) (moved_node m n) (kept_whole net whole m are) (moved_there (moved_node m) m.nodes net.nodes k n at h)
        ∙ ap Some (node_alike n read_same) ∙ sym (law net env k n whole at)

  node_same : (bound k : ℕ) → k < bound → IsSame k
  node_same zero k lt h = absurd (omega arith)
  node_same (suc bound) k lt h =
      let n = there net.nodes k (of_net net m are (read.Node k) h) in
      one_same k n.0 n.1 h (λ j low. node_same bound j (omega (arith, low, lt)))

  pub value_moved : (r : Read) → has m r ≡ true → value_at other new_env (moved_read m r) ≡ value_at net env r
  value_moved (read.Leaf k) h = leaf_same k h
  value_moved (read.Node k) h = ap (λ (o : Option Num). unwrap_or o no_operand) (node_same (suc k) k (omega arith) h)
