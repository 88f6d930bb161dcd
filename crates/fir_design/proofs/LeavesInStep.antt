-- A circuit and a tree that go in step have the same leaves by number and by path, and so one shape.
use Rattle.std.proofs.Common.{◌≡◌, ℕ, ◌<◌, ◌≤◌, [], Bool, true, false, length, map, nat_lt, slice_get, Some, refl, sym, ap, ◌∙◌, subst}
use Rattle.std.proofs.Math.Path.{fun_ext}
use Rattle.std.proofs.lemmas.Bool.{ltb-true, ltb-false}
use Rattle.std.proofs.lemmas.List.{get_or_past}
use Rattle.std.proofs.lemmas.Option.{same_Some, slice_get_within}
use Rattle.fir_base.specs.Lists.{In}
use Rattle.fir_base.proofs.Elements.{get_in, number_of, there}
use Rattle.fir_base.proofs.Members.{in_map_from}
use Rattle.fir_leaf.specs.working.DesignLaws.{numbered}
use Rattle.fir_meaning.specs.working.LeafCircuits.{LeafCircuit, type_of_leaf}
use Rattle.fir_meaning.specs.working.LeafModules.{LeafDeclared, leaf_at, no_leaf}
use Rattle.fir_meaning.specs.LeafTypes.{no_bits, number, number_type}
use Rattle.fir_leaf.specs.working.SoundDesigns.{circuit_path}
use Rattle.fir_meaning.specs.SourceCircuits.{PlacedLeaf, all_leaves, leaf_path, paths_of, state_words}
use Rattle.fir_meaning.specs.SourceDesigns.{SourceDesign}
use Rattle.fir_meaning.specs.SourceValues.{holds_on, source_holds}
use Rattle.fir_design.proofs.InStep.{InStep}
use Rattle.fir_design.proofs.PathLookups.{found_at, found_none, get_among, mapped_same}

module _ (c : LeafCircuit) (t : SourceDesign) (s : InStep c t) where
  -- the leaf of a number, and the number of a leaf
  pub leaf_there : (x : ℕ) → x < length c.leaves → (p : PlacedLeaf) × (slice_get (all_leaves t) x ≡ Some p)
  leaf_there x lt = there (all_leaves t) x (subst (λ n. x < n) s.many lt)

  pub leaf_within : (x : ℕ) (p : PlacedLeaf) → slice_get (all_leaves t) x ≡ Some p → x < length c.leaves
  leaf_within x p e = subst (λ n. x < n) (sym s.many) (slice_get_within (all_leaves t) x p e)

  -- no two leaves of the tree have one path, and none has the empty path
  pub one_leaf : (p q : PlacedLeaf) → In (all_leaves t) p → In (all_leaves t) q → leaf_path p ≡ leaf_path q → p ≡ q
  one_leaf p q m n e =
      let x = number_of (all_leaves t) p m in
      let y = number_of (all_leaves t) q n in
      let same : x.0 ≡ y.0 =
      s.once x.0 y.0 (leaf_within x.0 p x.1) (leaf_within y.0 q y.1) ((s.each x.0 p x.1).path ∙ e ∙ sym (s.each y.0 q y.1).path) in
      same_Some p q (sym x.1 ∙ ap (slice_get (all_leaves t)) same ∙ y.1)

  pub never_empty : In (paths_of (all_leaves t)) [] → ⊥
  never_empty among =
      let p = in_map_from leaf_path (all_leaves t) [] among in
      let x = number_of (all_leaves t) p.0 p.1 in
      s.named x.0 (leaf_within x.0 p.0 x.1) ((s.each x.0 p.0 x.1).path ∙ p.2)

  pub holds_there : (p : PlacedLeaf) → In (all_leaves t) p → holds_on (all_leaves t) (leaf_path p) ≡ p.leaf.holds
  holds_there p among =
      found_at leaf_path (λ (q : PlacedLeaf). q.leaf.holds) (number no_bits) (all_leaves t) p among
      (λ q m e. ap (λ (z : PlacedLeaf). z.leaf.holds) (one_leaf q p m among e))

  -- what has no leaf's number has the empty path
  pub beyond : (x : ℕ) → length c.leaves ≤ x → leaf_at c.leaves x ≡ no_leaf
  beyond x le = get_or_past c.leaves x no_leaf le

  holds_at : (x : ℕ) → (leaf_at c.leaves x).holds ≡ holds_on (all_leaves t) (circuit_path c x)
  holds_at x = go (nat_lt x (length c.leaves)) refl
    where
      go : (b : Bool) → nat_lt x (length c.leaves) ≡ b → (leaf_at c.leaves x).holds ≡ holds_on (all_leaves t) (circuit_path c x)
      go true e =
          let p = leaf_there x (ltb-true x (length c.leaves) e) in
          let same = s.each x p.0 p.1 in
          same.holds ∙ sym (holds_there p.0 (get_in (all_leaves t) x p.0 p.1)) ∙ ap (holds_on (all_leaves t)) (sym same.path)
      go false e =
          let none = beyond x (ltb-false x (length c.leaves) e) in
          ap (λ (l : LeafDeclared). l.holds) none
          ∙ sym (found_none leaf_path (λ (q : PlacedLeaf). q.leaf.holds) (number no_bits) (all_leaves t) [] never_empty)
          ∙ ap (λ (l : LeafDeclared). holds_on (all_leaves t) l.path) (sym none)

  pub types_are : type_of_leaf c ≡ numbered c (source_holds t)
  types_are = fun_ext (λ x. ap number_type (holds_at x))

  -- the words of the state
  pub word_within : (x : ℕ) → In c.words x → x < length c.leaves
  word_within x among = let p = get_among (slice_get (all_leaves t)) c.words (state_words t) s.words x among in leaf_within x p.0 p.2

  pub word_paths : map (circuit_path c) c.words ≡ paths_of (state_words t)
  word_paths = mapped_same (slice_get (all_leaves t)) (circuit_path c) leaf_path c.words (state_words t) s.words (λ x p e. (s.each x p e).path)
