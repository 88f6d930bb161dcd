-- What is read of nodes and stands for a whole term can be read, and has the type of the term.
use Rattle.std.proofs.Common.{◌≡◌, ℕ, List, [], ◌∷◌, length, map, Bool, false, unwrap_or, option_map, refl, sym, ap, ◌∙◌, subst, arith}
use Rattle.std.specs.Prelude.{Option}
use Rattle.fir_base.proofs.Elements.{all_there, there}
use Rattle.fir_bits.specs.Forms.{no_type}
use Rattle.fir_bits.specs.declared.types.NumTy.{NumTy}
use Rattle.fir_meaning.specs.LeafTypes.{LeafType, a_clock, number, number_type}
use Rattle.fir_meaning.specs.working.TermValues.{Holds}
use Rattle.fir_net.specs.declared.leaf.Leaf.{Leaf}
use Rattle.fir_net.specs.declared.node.Node.{Node}
use Rattle.fir_net.specs.declared.node.Node.TheVariants as node
use Rattle.fir_net.specs.declared.reads.Read.{Read}
use Rattle.fir_net.specs.declared.reads.Read.TheVariants as read
use Rattle.fir_net.specs.working.IsNet.{AreNodes, CanRead, IsChoice, IsNode, node_type, read_type}
use Rattle.fir_net.specs.working.Settled.{is_clock}
use Rattle.fir_net.specs.working.Values.{type_of_leaf}
use Rattle.fir_net.proofs.WholeNodes.{all_nodes}
use Rattle.fir_net.proofs.WholeValues.{type_at}
use Rattle.fir_connect.specs.working.LoweredLaws.{types_of}
use Rattle.fir_connect.specs.working.NetTerms.{NetTerm, term_type}
use Rattle.fir_merge.specs.working.NodeTerms.{IsBelow, ReadBefore, chosen_term, node_term, read_term, terms}
use Rattle.fir_merge.proofs.GrownTerms.{node_there}
use Rattle.fir_flat.specs.working.WholeTerms.{IsWhole}
use Rattle.fir_flatten.specs.working.KeptNodes.{IsHeld, LeavesHold}

-- it can be read, and has this type
pub record IsRead (leaves : List Leaf) (nodes : List Node) (r : Read) (t : NumTy) : Type 0 where
  pub can : CanRead leaves nodes r
  pub has_type : read_type leaves nodes r ≡ t

held_plain : (l : Leaf) (h : LeafType) (t : NumTy) → h ≡ number t → IsHeld l h → is_clock l.role ≡ false
held_plain l (number u) t e has = has.3
held_plain l a_clock t e has = cc

held_type : (l : Leaf) (h : LeafType) (t : NumTy) → h ≡ number t → IsHeld l h → type_of_leaf l ≡ number_type h
held_type l (number u) t e has =
    ap (λ (s : Bool). record { signed = s; width = l.width }) has.0 ∙ ap (λ (w : ℕ). record { signed = u.signed; width = w }) has.1
held_type l a_clock t e has = cc

-- the term of a node has the type of the node
module _ (holds : Holds) (known : List NetTerm) where
  choice_typed : (types : Read → NumTy) (rs : List Read) (signed : Bool) (width : ℕ) → IsChoice (record { signed = signed; width = width }) (map types rs)
      → term_type holds (chosen_term known rs signed width) ≡ record { signed = signed; width = width }
  choice_typed types [] signed width is = absurd is
  choice_typed types (c ∷ []) signed width is = absurd is
  choice_typed types (c ∷ a ∷ []) signed width is = absurd is
  choice_typed types (c ∷ a ∷ b ∷ []) signed width is = refl
  choice_typed types (c ∷ a ∷ b ∷ d ∷ rs) signed width is = absurd is

  node_typed : (leaves : List Leaf) (before : List Node) (n : Node) → IsNode leaves before n → term_type holds (node_term known n) ≡ node_type n
  node_typed leaves before (node.Literal v) is = refl
  node_typed leaves before (node.Operation o) is = refl
  node_typed leaves before (node.Mux m) is = choice_typed (read_type leaves before) m.reads m.signed m.width is.has_type

module _
    (leaves : List Leaf) (held : ℕ → LeafType) (count : ℕ) (hold : LeavesHold leaves held count) (nodes : List Node) (before : ReadBefore 0 nodes)
    (are : AreNodes leaves [] nodes) where
  pub read_is : (r : Read) (t : NetTerm) → IsBelow (length nodes) r → read_term (terms nodes) r ≡ t → IsWhole held count t
      → IsRead leaves nodes r (term_type (types_of held) t)
  read_is (read.Leaf k) t below is whole =
      let own = subst (IsWhole held count) (sym is) whole in
      let long = hold.long in
      let found = there leaves k (omega (arith, long, own.0)) in
      let has = hold.each k found.0 found.1 in
      record {
        can = (found.0, found.1, held_plain found.0 (held k) own.1.0 own.1.1 has);
        has_type = type_at leaves k found.0 found.1 ∙ held_type found.0 (held k) own.1.0 own.1.1 has ∙ ap (term_type (types_of held)) is;
      }
  read_is (read.Node k) t below is whole =
      let found = there nodes k below in
      let typed = node_typed (types_of held) (terms nodes) leaves nodes found.0
      (all_there (IsNode leaves nodes) nodes (all_nodes leaves nodes are) k found.0 found.1) in
      record {
        can = below;
        has_type =
            ap (λ (o : Option Node). unwrap_or (option_map node_type o) no_type) found.1 ∙ sym typed
            ∙ ap (term_type (types_of held)) (sym (node_there nodes k found.0 before found.1) ∙ is);
      }
