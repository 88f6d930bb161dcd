-- A folded net has no operator with literals alone as operands, and no mux with a literal condition: no leaf that is a literal is read.
use Rattle.std.proofs.Common.{◌≡◌, ℕ, ◌<◌, List, length, refl, sym, ap, ◌∙◌, subst, inl, inr, ◌⊎◌, ⊎_elim}
use Rattle.std.specs.Prelude.{slice_get, Some}
use Rattle.std.proofs.lemmas.Option.{slice_get_within}
use Rattle.fir_base.specs.Lists.{In}
use Rattle.fir_base.proofs.Elements.{get_in, number_of}
use Rattle.fir_net.specs.declared.leaf.Leaf.{Leaf}
use Rattle.fir_net.specs.declared.net.FlatNet.{FlatNet}
use Rattle.fir_net.specs.declared.node.Node.{Node}
use Rattle.fir_net.specs.declared.node.Node.TheVariants as node
use Rattle.fir_net.specs.declared.reads.Read.{Read}
use Rattle.fir_net.specs.declared.reads.Read.TheVariants as read
use Rattle.fir_net.specs.working.IsNet.{IsNet}
use Rattle.fir_net.specs.working.IsOrder.{IsOrder}
use Rattle.fir_net.specs.working.Settled.{driver}
use Rattle.fir_fold_rules.specs.working.Simplifies.{IsLiteralNode}
use Rattle.fir_fold.specs.working.FoldedNet.{folded_net}
use Rattle.fir_fold.specs.working.IsFolded.{IsFolded, IsLiteral, of_leaf, of_node}
use Rattle.fir_fold.specs.working.Standing.{leaf_read}
use Rattle.fir_fold.specs.working.Walking.{IsWalked, StandsForLeaf, Walking, leaf, literal, of_driver, read_by}
use Rattle.fir_fold.proofs.FoldedLeaves.{driver_from, map_from}
use Rattle.fir_fold.proofs.FoldedNets.{all_done, stood}
use Rattle.fir_fold.proofs.Growing.{reads_before}
use Rattle.fir_fold.proofs.Stood.{reads_driver}

same_some : (a b : Read) → Some a ≡ Some b → a ≡ b
same_some a b e = cc

module _ (net : FlatNet) (order : List Read) (ordered : IsOrder net order) (whole : IsNet net) (w : Walking) (h : IsWalked net order (length order) w) where
  literal_by : (r : Read) → IsLiteral (folded_net net w) r → IsLiteralNode w.nodes r ⊎ ((k : ℕ) × (r ≡ read.Leaf k))
  literal_by _ (of_node k v e) = inl (v, e)
  literal_by _ (of_leaf k m r at drives lit) = inr (k, refl)

  -- a leaf that is read as itself is no literal
  no_leaf : (r : Read) → IsLiteral (folded_net net w) r → (k : ℕ) → r ≡ read.Leaf k → read_by w (read.Leaf k) ≡ read.Leaf k → ⊥
  no_leaf _ (of_node j v e) k same settled = cc
  no_leaf _ (of_leaf j m r at drives lit) k same settled =
      let l = map_from (leaf_read (read_by w)) net.leaves j m at in
      let low : j < length net.leaves = slice_get_within net.leaves j l.0 l.1 in
      let s = (stood net order ordered whole w h (read.Leaf j) low).stands in
      let one : s.0 ≡ l.0 = leaf_same s.0 l.0 (sym s.1 ∙ l.1) in
      let d = driver_from (read_by w) l.0.role r (ap (λ (x : Leaf). driver x.role) (sym l.2) ∙ drives) in
      let here : read_by w (read.Leaf j) ≡ read.Leaf j = subst (λ (x : Read). read_by w x ≡ x) (sym same) settled in
      by low s.0 s.1 s.2 d.0 (ap (λ (x : Leaf). driver x.role) one ∙ d.1) d.2 here (literal_by r lit) (λ i e f. no_leaf r lit i e f)
    where
      leaf_same : (a b : Leaf) → Some a ≡ Some b → a ≡ b
      leaf_same a b e = cc

      by : j < length net.leaves → (l : Leaf) → slice_get net.leaves j ≡ Some l → StandsForLeaf net.leaves j l w → (d : Read) → driver l.role ≡ Some d → r ≡ read_by w d
          → read_by w (read.Leaf j) ≡ read.Leaf j
          → IsLiteralNode w.nodes r ⊎ ((i : ℕ) × (r ≡ read.Leaf i)) → ((i : ℕ) → r ≡ read.Leaf i → read_by w (read.Leaf i) ≡ read.Leaf i → ⊥) → ⊥
      by low l is (literal c v x i driven reads there stands place) d drive by_read here kind deeper = let clash : read.Leaf j ≡ read.Node i = sym here ∙ stands in cc
      by low l is (of_driver c driven alike typed) d drive by_read here kind deeper =
          let one : c ≡ d = same_some c d (sym driven ∙ drive) in
          deeper j (by_read ∙ ap (read_by w) (sym one) ∙ sym alike ∙ here) here
      by low l is (leaf none settles) d drive by_read here (inl lit) deeper = none d drive (subst (IsLiteralNode w.nodes) by_read lit)
      by low l is (leaf none settles) d drive by_read here (inr i) deeper =
          let before = reads_before net order ordered (length order) w h (read.Leaf j) d (all_done net order ordered whole w h (read.Leaf j) low) (reads_driver net j l d is drive) in
          deeper i.0 i.1 ((h.stood d before).settled i.0 (sym by_read ∙ i.1))

  literal_operand : (j : ℕ) (m : Node) (r : Read) → slice_get w.nodes j ≡ Some m → ((k : ℕ) → r ≡ read.Leaf k → read_by w (read.Leaf k) ≡ read.Leaf k) → IsLiteral (folded_net net w) r → IsLiteralNode w.nodes r
  literal_operand j m r at settled lit =
      ⊎_elim (λ (x : IsLiteralNode w.nodes r). x) (λ (x : (k : ℕ) × (r ≡ read.Leaf k)). absurd (no_leaf r lit x.0 x.1 (settled x.0 x.1))) (literal_by r lit)

  pub is_folded : IsFolded (folded_net net w)
  is_folded = record {
    operations = λ k o at all.
        h.folded k (node.Operation o) at
        (λ r i.
        let p = number_of o.reads r i in
        literal_operand k (node.Operation o) r at (λ j e. h.operands k j (node.Operation o) at (subst (In o.reads) e i)) (all p.0 r p.1));
    muxes = λ k m c at first lit.
        h.folded k (node.Mux m) at c first
        (literal_operand k (node.Mux m) c at (λ j e. h.operands k j (node.Mux m) at (subst (In m.reads) e (get_in m.reads 0 c first))) lit);
  }
