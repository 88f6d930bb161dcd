-- What is read has at most 128 bits.
use Rattle.std.proofs.Common.{◌≡◌, ◌≤◌, List, [], ◌∷◌, ◌++◌, map, sym, ap, subst, arith, append-nil, append_assoc, unwrap_or, option_map}
use Rattle.std.specs.Prelude.{Option}
use Rattle.std.specs.List.{AllByRecursion}
use Rattle.fir_base.proofs.Each.{all_joined}
use Rattle.fir_base.proofs.Elements.{all_there, there}
use Rattle.fir_bits.specs.Forms.{no_type}
use Rattle.fir_bits.specs.declared.types.NumTy.{NumTy}
use Rattle.fir_net.specs.declared.leaf.Leaf.{Leaf}
use Rattle.fir_net.specs.declared.node.Node.{Node}
use Rattle.fir_net.specs.declared.node.Node.TheVariants as node
use Rattle.fir_net.specs.declared.reads.Read.{Read}
use Rattle.fir_net.specs.declared.reads.Read.TheVariants as read
use Rattle.fir_net.specs.working.IsNet.{AreNodes, CanRead, IsChoice, IsNode, node_type, read_type}
use Rattle.fir_net.proofs.WholeValues.{type_at}
use Rattle.fir_fold_rules.specs.declared.term.Term.TheVariants as term
use Rattle.fir_fold_rules.specs.working.Simplifies.{AreNarrow}
use Rattle.fir_fold_rules.specs.working.Terms.{IsTerm}
use Rattle.fir_fold_rules.proofs.Typing.{has_one}

abbrev are_narrow : List Node → Type 0
are_narrow = AllByRecursion (λ (n : Node). (node_type n).width ≤ 128)

module _ (leaves : List Leaf) (narrow : AreNarrow leaves) where
  read_narrow : (nodes : List Node) → are_narrow nodes → (r : Read) → CanRead leaves nodes r → (read_type leaves nodes r).width ≤ 128
  read_narrow nodes h (read.Leaf k) can =
      subst (λ (t : NumTy). t.width ≤ 128) (sym (type_at leaves k can.0 can.1)) (all_there (λ (l : Leaf). l.width ≤ 128) leaves narrow k can.0 can.1)
  read_narrow nodes h (read.Node k) can =
      let n = there nodes k can in
      let is : read_type leaves nodes (read.Node k) ≡ node_type n.0 = ap (λ (o : Option Node). unwrap_or (option_map node_type o) no_type) n.1 in
      subst (λ (t : NumTy). t.width ≤ 128) (sym is) (all_there (λ (m : Node). (node_type m).width ≤ 128) nodes h k n.0 n.1)

  choice_narrow : (nodes : List Node) → are_narrow nodes → (t : NumTy) (rs : List Read)
      → AllByRecursion (CanRead leaves nodes) rs → IsChoice t (map (read_type leaves nodes) rs) → t.width ≤ 128
  choice_narrow nodes h t [] can is = absurd is
  choice_narrow nodes h t (c ∷ []) can is = absurd is
  choice_narrow nodes h t (c ∷ a ∷ []) can is = absurd is
  choice_narrow nodes h t (c ∷ a ∷ b ∷ []) can is = omega (arith, is.3, read_narrow nodes h a can.1.0, read_narrow nodes h b can.1.1.0)
  choice_narrow nodes h t (c ∷ a ∷ b ∷ d ∷ rs) can is = absurd is

  node_narrow : (nodes : List Node) → are_narrow nodes → (n : Node) → IsNode leaves nodes n → (node_type n).width ≤ 128
  node_narrow nodes h (node.Literal v) is = is.narrow
  node_narrow nodes h (node.Operation o) is = (has_one o.op (map (read_type leaves nodes) o.reads) o.integers (node_type (node.Operation o)) is.has_type).narrow
  node_narrow nodes h (node.Mux m) is = choice_narrow nodes h (node_type (node.Mux m)) m.reads is.reads is.has_type

  along : (ns before : List Node) → AreNodes leaves before ns → are_narrow before → are_narrow (before ++ ns)
  along [] before are h = subst are_narrow (sym (append-nil before)) h
  along (n ∷ ns) before are h =
      subst are_narrow (append_assoc before (n ∷ []) ns)
      (along ns (before ++ n ∷ []) are.1 (all_joined (λ (m : Node). (node_type m).width ≤ 128) before (n ∷ []) h (node_narrow before h n are.0, tt)))

  module _ (nodes : List Node) (are : AreNodes leaves [] nodes) where
    pub narrow_read : (r : Read) → CanRead leaves nodes r → (read_type leaves nodes r).width ≤ 128
    narrow_read = read_narrow nodes (along nodes [] are tt)

    pub narrow_choice : (t : NumTy) (c a b : Read) → IsTerm leaves nodes t (term.Mux c a b) → t.width ≤ 128
    narrow_choice t c a b is = choice_narrow nodes (along nodes [] are tt) t (c ∷ a ∷ b ∷ []) is.reads is.has_type
