-- In all settled values of the net what stands for a leaf or a node has its value in the folded net.
use Rattle.std.proofs.Common.{◌≡◌, ℕ, zero, suc, ◌+◌, ◌-◌, ◌^◌, ◌<◌, List, [], ◌∷◌, ◌++◌, length, map, Bool, true, false, ◌&&◌, if◌then◌else◌, refl, sym, ap, ◌∙◌, subst, inl, inr, arith, unwrap_or}
use Rattle.std.specs.Prelude.{slice_get, Option, Some}
use Rattle.std.proofs.lemmas.Bool.{le-leb}
use Rattle.std.proofs.lemmas.Option.{slice_get_within}
use Rattle.fir_base.specs.Lists.{In}
use Rattle.fir_base.specs.Ticks.{Tick}
use Rattle.fir_base.proofs.Elements.{all_there, number_of as place_of}
use Rattle.fir_bits.specs.Operators.{no_operand, outcome}
use Rattle.fir_bits.specs.Values.{extended, fitted, is_negative}
use Rattle.fir_bits.specs.working.Operators.{type_of}
use Rattle.fir_bits.specs.declared.types.NumTy.{NumTy}
use Rattle.fir_bits.specs.declared.values.Num.{Num}
use Rattle.fir_net.specs.declared.leaf.Leaf.{Leaf}
use Rattle.fir_net.specs.declared.net.FlatNet.{FlatNet}
use Rattle.fir_net.specs.declared.node.Node.{Node}
use Rattle.fir_net.specs.declared.node.Node.TheVariants as node
use Rattle.fir_net.specs.declared.reads.Read.{Read}
use Rattle.fir_net.specs.declared.reads.Read.TheVariants as read
use Rattle.fir_net.specs.working.Dependence.{Reads, support_of}
use Rattle.fir_net.specs.working.IsNet.{CanRead, IsNet, IsNode, node_type, read_type}
use Rattle.fir_net.specs.working.IsOrder.{IsOrder}
use Rattle.fir_net.specs.working.Laws.{LeavesFit, NodesHaveTheirTypes, NodesHaveTheirValues}
use Rattle.fir_net.specs.working.Settled.{Settled, driver, is_clock, value_at}
use Rattle.fir_net.specs.working.Values.{IsOfType, at_width, chosen, node_value, number_of, type_of_leaf, values}
use Rattle.fir_net.proofs.NodeReads.{reads_can}
use Rattle.fir_net.proofs.WholeNodes.{all_nodes}
use Rattle.fir_fold_rules.specs.declared.replacement.Replacement.{Replacement}
use Rattle.fir_fold_rules.specs.declared.replacement.Replacement.TheVariants as by
use Rattle.fir_fold_rules.specs.working.Replaces.{AreValues, Replaces, computed}
use Rattle.fir_fold.specs.working.FoldedNet.{folded_net}
use Rattle.fir_fold.specs.working.Standing.{leaf_read, node_read}
use Rattle.fir_fold.specs.working.Walking.{IsBy, IsWalked, StandsBefore, StandsForLeaf, StandsForNode, Walking, fitted_literal, leaf, literal, of_driver, read_by}
use Rattle.fir_fold.proofs.FoldedLeaves.{can_over, clock_role, leaf_types, map_from, read_types}
use Rattle.fir_fold.proofs.FoldedNets.{whole_folded}
use Rattle.fir_fold.proofs.Entries.{get_more}
use Rattle.fir_fold.proofs.LeafSteps.{drives_leaf, leaf_typed}
use Rattle.fir_fold.proofs.Stood.{can_more, can_there, reads_driver, reads_node, type_more}

-- ---- a value at its own width
fitted_own : (signed : Bool) (w n : ℕ) → fitted signed w n w ≡ n
fitted_own signed w n = wider ∙ own (signed && is_negative w n)
  where
    wider : fitted signed w n w ≡ extended signed w n w
    wider = let test = le-leb w w (omega arith) in rw test refl

    own : (b : Bool) → (if b then n + (2 ^ w - 2 ^ w) else n) ≡ n
    own true = omega arith
    own false = refl

own_value : (x : Num) (t : NumTy) → type_of x ≡ t → number_of t (at_width x t.width) ≡ x
own_value x t of = subst (λ (u : NumTy). number_of u (at_width x u.width) ≡ x) of (ap (number_of (type_of x)) (fitted_own x.signed x.value.width x.value.number))

-- ---- what a node computes of what stands for its operands
map_through : {A B C : Type 0} → (f : A → B) (g : B → C) (e : A → C) (xs : List A) → ((x : A) → In xs x → g (f x) ≡ e x) → map g (map f xs) ≡ map e xs
map_through f g e [] h = refl
map_through f g e (x ∷ xs) h = rw (h x (inl refl), map_through f g e xs (λ y i. h y (inr i))) refl

computed_read : (f : Read → Read) (g e : Read → Num) (m : Node) → ((x : Read) → In (support_of m) x → g (f x) ≡ e x) → computed g (node_read f m) ≡ computed e m
computed_read f g e (node.Literal v) h = refl
computed_read f g e (node.Operation o) h = ap (λ (vs : List Num). outcome o.op vs o.integers) (map_through f g e o.reads h)
computed_read f g e (node.Mux m) h = ap (chosen (node_type (node.Mux m))) (map_through f g e m.reads h)

computed_is : (net : FlatNet) (env : ℕ → ℕ) (m : Node) → node_value net.leaves env (values net env) m ≡ computed (value_at net env) m
computed_is net env (node.Literal v) = refl
computed_is net env (node.Operation o) = refl
computed_is net env (node.Mux m) = refl

node_has : NodesHaveTheirValues → (net : FlatNet) (env : ℕ → ℕ) (k : ℕ) (m : Node) → IsNet net → slice_get net.nodes k ≡ Some m → value_at net env (read.Node k) ≡ computed (value_at net env) m
node_has law net env k m whole at = ap (λ (o : Option Num). unwrap_or o no_operand) (law net env k m whole at) ∙ computed_is net env m

module _ (nodes_values : NodesHaveTheirValues) (nodes_types : NodesHaveTheirTypes) (net : FlatNet) (order : List Read) (ordered : IsOrder net order) (whole : IsNet net)
    (w : Walking) (h : IsWalked net order (length order) w) (state : List ℕ) (tick : Tick) (env : ℕ → ℕ) (clock : ℕ → Option ℕ) (settled : Settled net state tick env clock) where
  abbrev other : FlatNet
  other = folded_net net w

  whole_other : IsNet (folded_net net w)
  whole_other = whole_folded net order ordered whole w h

  fits_other : LeavesFit (map (leaf_read (read_by w)) net.leaves) env
  fits_other = record {
    each = λ k m at is.
        let l = map_from (leaf_read (read_by w)) net.leaves k m at in
        let plain : is_clock l.0.role ≡ false = sym (clock_role (read_by w) l.0.role) ∙ ap (λ (x : Leaf). is_clock x.role) (sym l.2) ∙ is in
        subst (λ (x : Leaf). env k < 2 ^ x.width) (sym l.2) (settled.fits k l.0 l.1 plain);
  }

  has_type : (r : Read) → CanRead net.leaves w.nodes r → IsOfType (read_type net.leaves w.nodes r) (value_at other env r)
  has_type r can =
      subst (λ (t : NumTy). IsOfType t (value_at other env r)) (read_types (read_by w) net.leaves w.nodes r)
      (nodes_types other env r whole_other fits_other (can_over (read_by w) net.leaves w.nodes r can))

  are_values : (before behind : List Node) → w.nodes ≡ before ++ behind → AreValues net.leaves before (value_at other env)
  are_values before behind parts = record {
    typed = λ r can.
        let more : CanRead net.leaves w.nodes r = subst (λ (ns : List Node). CanRead net.leaves ns r) (sym parts) (can_more net.leaves before behind r can) in
        let same : read_type net.leaves w.nodes r ≡ read_type net.leaves before r =
        ap (λ (ns : List Node). read_type net.leaves ns r) parts ∙ type_more net.leaves before behind r (can_there net.leaves before r can) in
        subst (λ (t : NumTy). IsOfType t (value_at other env r)) same (has_type r more);
    each = λ k m at. node_has nodes_values other env k m whole_other (ap (λ (ns : List Node). slice_get ns k) parts ∙ get_more before behind k m at);
  }

  leaf_value : (k : ℕ) → value_at other env (read.Leaf k) ≡ value_at net env (read.Leaf k)
  leaf_value k = ap (λ (t : NumTy). number_of t (env k)) (leaf_types (read_by w) net.leaves k)

  leaf_shows : (k : ℕ) (l : Leaf) → slice_get net.leaves k ≡ Some l → value_at net env (read.Leaf k) ≡ number_of (type_of_leaf l) (env k)
  leaf_shows k l at = ap (λ (t : NumTy). number_of t (env k)) (leaf_typed net k l at)

  abbrev Agrees : Read → Type 0
  Agrees v = value_at other env (read_by w v) ≡ value_at net env v

  -- ---- along the order
  module _ (n : ℕ) (before : (x : Read) → StandsBefore order n x → CanRead net.leaves net.nodes x → Agrees x) where
    sooner_one : (v x : Read) → (d : StandsBefore order (suc n) v) → Reads net v x → StandsBefore order n x
    sooner_one v x d r = let a = ordered.after d.place v x d.is r in let low = d.before in record { place = a.0; before = omega (arith, a.1, low); is = a.2 }

    by_rule : (m : Node) (v : Read) (earlier : List Node) → (b : Replacement) → Replaces net.leaves earlier (node_read (read_by w) m) b → AreValues net.leaves earlier (value_at other env)
        → IsBy w.nodes b (read_by w v) → value_at other env (read_by w v) ≡ computed (value_at other env) (node_read (read_by w) m)
    by_rule m v earlier (by.Read r) f values is = ap (value_at other env) is ∙ f.same (value_at other env) values
    by_rule m v earlier (by.Node x) f values is =
        ap (value_at other env) is.1 ∙ node_has nodes_values other env is.0 x whole_other is.2 ∙ f.same (value_at other env) values

    node_agrees : (k : ℕ) (m : Node) → slice_get net.nodes k ≡ Some m → StandsBefore order (suc n) (read.Node k) → StandsForNode net.leaves k m w → Agrees (read.Node k)
    node_agrees k m at d s =
        let is = all_there (IsNode net.leaves net.nodes) net.nodes (all_nodes net.leaves net.nodes whole.nodes) k m at in
        by_rule m (read.Node k) s.before s.replacement s.replaces (are_values s.before s.behind s.parts) s.is
        ∙ computed_read (read_by w) (value_at other env) (value_at net env) m
        (λ x i. let p = place_of (support_of m) x i in before x (sooner_one (read.Node k) x d (reads_node net k m x at i)) (reads_can net.leaves net.nodes m is p.0 x p.1))
        ∙ sym (node_has nodes_values net env k m whole at)

    driver_agrees : (k : ℕ) (l : Leaf) (c : Read) → slice_get net.leaves k ≡ Some l → driver l.role ≡ Some c → StandsBefore order (suc n) (read.Leaf k) → Agrees c
    driver_agrees k l c at drives d = before c (sooner_one (read.Leaf k) c d (reads_driver net k l c at drives)) (drives_leaf net whole k l c at drives).can

    leaf_agrees : (k : ℕ) (l : Leaf) → slice_get net.leaves k ≡ Some l → StandsBefore order (suc n) (read.Leaf k) → StandsForLeaf net.leaves k l w → Agrees (read.Leaf k)
    leaf_agrees k l at d (leaf none itself) = ap (value_at other env) itself ∙ leaf_value k
    leaf_agrees k l at d (of_driver c drives same typed) =
        let x = value_at net env c in
        let agrees = driver_agrees k l c at drives d in
        let done = sooner_one (read.Leaf k) c d (reads_driver net k l c at drives) in
        let can = (h.stood c (record { place = done.place; before = slice_get_within order done.place c done.is; is = done.is })).can (drives_leaf net whole k l c at drives).can in
        let of : type_of x ≡ type_of_leaf l = ap type_of (sym agrees) ∙ (has_type (read_by w c) can).is ∙ typed in
        ap (value_at other env) same ∙ agrees ∙ sym (own_value x (type_of_leaf l) of) ∙ ap (number_of (type_of_leaf l)) (sym (settled.driven k l c at drives)) ∙ sym (leaf_shows k l at)
    leaf_agrees k l at d (literal c v j i drives reads is stands place) =
        let agrees = driver_agrees k l c at drives d in
        let worth : value_at net env c ≡ v = sym agrees ∙ ap (value_at other env) reads ∙ node_has nodes_values other env j (node.Literal v) whole_other is in
        ap (value_at other env) stands ∙ node_has nodes_values other env i (fitted_literal l v) whole_other place
        ∙ ap (λ (y : Num). number_of (type_of_leaf l) (at_width y l.width)) (sym worth)
        ∙ ap (number_of (type_of_leaf l)) (sym (settled.driven k l c at drives)) ∙ sym (leaf_shows k l at)

    agrees_at : (v : Read) → StandsBefore order (suc n) v → CanRead net.leaves net.nodes v → Agrees v
    agrees_at (read.Leaf k) d can =
        let s = (h.stood (read.Leaf k) (record { place = d.place; before = slice_get_within order d.place (read.Leaf k) d.is; is = d.is })).stands in
        leaf_agrees k s.0 s.1 d s.2
    agrees_at (read.Node k) d can =
        let s = (h.stood (read.Node k) (record { place = d.place; before = slice_get_within order d.place (read.Node k) d.is; is = d.is })).stands in
        node_agrees k s.0 s.1 d s.2

  pub agree : (n : ℕ) (v : Read) → StandsBefore order n v → CanRead net.leaves net.nodes v → value_at other env (read_by w v) ≡ value_at net env v
  agree zero v d can = let low = d.before in absurd (omega (arith, low))
  agree (suc n) v d can = agrees_at n (agree n) v d can
