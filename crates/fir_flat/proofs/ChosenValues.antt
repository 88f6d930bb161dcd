-- What is read of a mux of a whole net is at every width the arm that its condition picks, at that width: the arms have the signedness of the mux, and its
-- width is the greater one of theirs.
use Rattle.std.proofs.Common.{◌≡◌, ℕ, max, List, [], ◌∷◌, ◌++◌, length, map, Bool, true, false, if◌then◌else◌, refl, sym, ap, ◌∙◌, subst, arith, length-append}
use Rattle.std.specs.List.{AllByRecursion}
use Rattle.fir_base.proofs.Elements.{all_there, there}
use Rattle.fir_bits.specs.Values.{IsBitVector, fitted}
use Rattle.fir_bits.specs.declared.types.NumTy.{NumTy}
use Rattle.fir_bits.specs.declared.values.Num.{Num}
use Rattle.fir_bits.specs.working.Laws.{HasItsType}
use Rattle.fir_meaning.specs.working.TermValues.{Holds}
use Rattle.fir_meaning.specs.Values as over
use Rattle.fir_net.specs.declared.leaf.Leaf.{Leaf}
use Rattle.fir_net.specs.declared.net.FlatNet.{FlatNet}
use Rattle.fir_net.specs.declared.node.Node.{Node}
use Rattle.fir_net.specs.declared.node.Node.TheVariants as node
use Rattle.fir_net.specs.declared.reads.Read.{Read}
use Rattle.fir_net.specs.declared.reads.Read.TheVariants as read
use Rattle.fir_net.specs.working.Dependence.{support_of}
use Rattle.fir_net.specs.working.IsNet.{AreNodes, CanRead, IsChoice, IsNet, IsNode, read_type}
use Rattle.fir_net.specs.working.Laws.{LeavesFit}
use Rattle.fir_net.specs.working.Settled.{value_at}
use Rattle.fir_net.specs.working.Values.{IsOfType, at_width}
use Rattle.fir_net.proofs.WholeNodes.{all_nodes}
use Rattle.fir_net.proofs.WholeValues.{nodes_have_types}
use Rattle.fir_connect.specs.working.NetTerms.{NetTerm, mux}
use Rattle.fir_connect.specs.working.NetValues.{term_value}
use Rattle.fir_connect.proofs.FittedTwice.{fitted_again}
use Rattle.fir_merge.specs.working.NodeTerms.{AreBelow, IsBelow, ReadBefore, chosen_term, node_term, terms}
use Rattle.fir_merge.proofs.GrownTerms.{node_there}
use Rattle.fir_flat.specs.working.FlatCircuits.{stands_for}
use Rattle.fir_flat.proofs.NodeValues.{AgreesWith, read_is_worth}

-- at the greater width and then at another one
picked_again : (signed : Bool) (to w : ℕ) (high : Bool) (a b : Num) → a.signed ≡ signed → b.signed ≡ signed → to ≡ max a.value.width b.value.width
    → IsBitVector a.value → IsBitVector b.value
    → fitted signed to (if high then at_width a to else at_width b to) w ≡ (if high then at_width a w else at_width b w)
picked_again signed to w true a b first second wide is_a is_b =
    rw (← first) (fitted_again a.signed a.value.width a.value.number to w is_a.below (omega (arith, wide)))
picked_again signed to w false a b first second wide is_a is_b =
    rw (← second) (fitted_again b.signed b.value.width b.value.number to w is_b.below (omega (arith, wide)))

-- nodes of a whole net read nodes before them
module _ (leaves : List Leaf) where
  read_below : (before : List Node) (r : Read) → CanRead leaves before r → IsBelow (length before) r
  read_below before (read.Leaf k) can = tt
  read_below before (read.Node k) can = can

  reads_below : (before : List Node) (rs : List Read) → AllByRecursion (CanRead leaves before) rs → AreBelow (length before) rs
  reads_below before [] can = tt
  reads_below before (r ∷ rs) can = (read_below before r can.0, reads_below before rs can.1)

  support_below : (before : List Node) (n : Node) → IsNode leaves before n → AreBelow (length before) (support_of n)
  support_below before (node.Literal v) is = tt
  support_below before (node.Operation o) is = reads_below before o.reads is.reads
  support_below before (node.Mux m) is = reads_below before m.reads is.reads

  read_before : (before ns : List Node) → AreNodes leaves before ns → ReadBefore (length before) ns
  read_before before [] are = tt
  read_before before (n ∷ ns) are = (
    support_below before n are.0,
    subst (λ (j : ℕ). ReadBefore j ns) (omega (arith, length-append before (n ∷ []))) (read_before (before ++ n ∷ []) ns are.1),
  )

-- the arms of a mux of that type, as they are read
record AreArms (net : FlatNet) (t : NumTy) (a b : NetTerm) : Type 0 where
  first : Read
  second : Read
  can_first : CanRead net.leaves net.nodes first
  can_second : CanRead net.leaves net.nodes second
  first_stands : stands_for net.nodes first ≡ a
  second_stands : stands_for net.nodes second ≡ b
  first_kind : (read_type net.leaves net.nodes first).signed ≡ t.signed
  second_kind : (read_type net.leaves net.nodes second).signed ≡ t.signed
  greater : t.width ≡ max (read_type net.leaves net.nodes first).width (read_type net.leaves net.nodes second).width

module _ (net : FlatNet) (whole : IsNet net) (c a b : NetTerm) (t : NumTy) where
  arms_among : (rs : List Read) (signed : Bool) (width : ℕ) → chosen_term (terms net.nodes) rs signed width ≡ mux c a b t
      → AllByRecursion (CanRead net.leaves net.nodes) rs → IsChoice (record { signed = signed; width = width }) (map (read_type net.leaves net.nodes) rs)
      → AreArms net t a b
  arms_among [] signed width e can is = absurd is
  arms_among (x ∷ []) signed width e can is = absurd is
  arms_among (x ∷ y ∷ []) signed width e can is = absurd is
  arms_among (x ∷ y ∷ z ∷ []) signed width e can is =
      let type : record { signed = signed; width = width } ≡ t = cc in
      record {
        first = y;
        second = z;
        can_first = can.1.0;
        can_second = can.1.1.0;
        first_stands = cc;
        second_stands = cc;
        first_kind = is.1 ∙ ap (λ (u : NumTy). u.signed) type;
        second_kind = is.2 ∙ ap (λ (u : NumTy). u.signed) type;
        greater = ap (λ (u : NumTy). u.width) (sym type) ∙ is.3;
      }
  arms_among (x ∷ y ∷ z ∷ r ∷ rs) signed width e can is = absurd is

  arms_of_node : (n : Node) → node_term (terms net.nodes) n ≡ mux c a b t → IsNode net.leaves net.nodes n → AreArms net t a b
  arms_of_node (node.Literal v) e is = absurd cc
  arms_of_node (node.Operation o) e is = absurd cc
  arms_of_node (node.Mux m) e is = arms_among m.reads m.signed m.width e is.reads is.has_type

  arms_of : (r : Read) → CanRead net.leaves net.nodes r → stands_for net.nodes r ≡ mux c a b t → AreArms net t a b
  arms_of (read.Leaf k) can is = absurd cc
  arms_of (read.Node k) can is =
      let found = there net.nodes k can in
      arms_of_node found.0 (sym (node_there net.nodes k found.0 (read_before net.leaves [] net.nodes whole.nodes) found.1) ∙ is)
      (all_there (IsNode net.leaves net.nodes) net.nodes (all_nodes net.leaves net.nodes whole.nodes) k found.0 found.1)

module _
    (law : HasItsType) (net : FlatNet) (whole : IsNet net) (env : ℕ → ℕ) (fit : LeavesFit net.leaves env) (holds : Holds) (numbers : ℕ → ℕ)
    (agrees : AgreesWith net.leaves env holds numbers) where
  abbrev value : NetTerm → Num
  value t = term_value holds numbers t

  -- what a read stands for has the value and the type of the read
  stands_typed : (r : Read) (d : NetTerm) → CanRead net.leaves net.nodes r → stands_for net.nodes r ≡ d → IsOfType (read_type net.leaves net.nodes r) (value d)
  stands_typed r d can is =
      subst (IsOfType (read_type net.leaves net.nodes r)) (read_is_worth net env holds numbers whole agrees r can ∙ ap value is)
      (nodes_have_types law net env r whole fit can)

  pub picked_at_width : (r : Read) (c a b : NetTerm) (t : NumTy) → CanRead net.leaves net.nodes r → stands_for net.nodes r ≡ mux c a b t → (w : ℕ)
      → at_width (value_at net env r) w ≡ (if over.is_high (value c ∷ []) then at_width (value a) w else at_width (value b) w)
  picked_at_width r c a b t can is w =
      let arms = arms_of net whole c a b t r can is in
      let first = stands_typed arms.first a arms.can_first arms.first_stands in
      let second = stands_typed arms.second b arms.can_second arms.second_stands in
      let first_signed : (value a).signed ≡ t.signed = ap (λ (u : NumTy). u.signed) first.is ∙ arms.first_kind in
      let second_signed : (value b).signed ≡ t.signed = ap (λ (u : NumTy). u.signed) second.is ∙ arms.second_kind in
      let first_wide : (value a).value.width ≡ (read_type net.leaves net.nodes arms.first).width = ap (λ (u : NumTy). u.width) first.is in
      let second_wide : (value b).value.width ≡ (read_type net.leaves net.nodes arms.second).width = ap (λ (u : NumTy). u.width) second.is in
      let greater : t.width ≡ max (value a).value.width (value b).value.width = arms.greater ∙ rw (first_wide, second_wide) refl in
      ap (λ (v : Num). at_width v w) (read_is_worth net env holds numbers whole agrees r can ∙ ap value is)
      ∙ picked_again t.signed t.width w (over.is_high (value c ∷ [])) (value a) (value b) first_signed second_signed greater first.bits second.bits
