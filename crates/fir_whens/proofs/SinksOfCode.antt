-- What the code reads of the leaves of a module: which of them must be driven, how deep each is declared, and which are covered.
use Rattle.std.proofs.Common.{
  ◌≡◌,
  ℕ,
  zero,
  suc,
  ◌+◌,
  ◌<◌,
  ◌≤◌,
  List,
  [],
  ◌∷◌,
  map,
  length,
  Bool,
  true,
  false,
  get_or,
  refl,
  ap,
  sym,
  ◌∙◌,
  subst,
  ◌⊎◌,
  inl,
  inr,
  arith,
}
use Rattle.std.specs.Prelude.{slice_index_or}
use Rattle.std.specs.Option.{option_map}
use Rattle.std.proofs.lemmas.Bool.{cases_lt}
use Rattle.std.proofs.lemmas.List.{length-map}
use Rattle.std.proofs.lemmas.Option.{get_or_from_slice_get, slice_get-map, slice_get_read}
use Rattle.fir_meaning.specs.working.Choices.{covers_all}
use Rattle.fir_meaning.specs.working.LeafBlocks.{LeafBlock}
use Rattle.fir_meaning.specs.working.LeafModules.{LeafDeclared, is_sink, leaf_at, no_leaf}
use Rattle.fir_leaf.specs.declared.node.Node.{Node}
use Rattle.fir_leaf.specs.working.NodeBlocks.{block_in}
use Rattle.fir_leaf_circuit.specs.declared.leaf.Leaf.{Leaf}
use Rattle.fir_leaf_circuit.specs.declared.leaf.LeafRole.{LeafRole}
use Rattle.fir_leaf_circuit.specs.declared.leaf.LeafRole.TheVariants as role
use Rattle.fir_leaf_circuit.specs.declared.leaf_module.LeafModule.{LeafModule}
use Rattle.fir_leaf_circuit.specs.working.Seen.{leaf_seen, leaves_seen, role_seen}
use Rattle.fir_leaf_circuit.specs.working.LeafStores.{depth_in, leaf_of_code}
use Rattle.fir_driven.specs.working.Covering.{AreCovered}
use Rattle.fir_whens.specs.working.CoveredModules.{AreCoveredBefore, depths_of, is_covered_at, is_sink_at, is_sink_role}

-- an element that was read within the list is there whatever the default
read_at : {A : Type 0} → (xs : List A) (k : ℕ) (x d : A) → k < length xs → x ≡ get_or xs k x → get_or xs k d ≡ x
read_at xs k x d within e = get_or_from_slice_get xs k x d (slice_get_read xs (length xs) k x refl within e)

-- the roles of the code and of the definitions are sinks alike
sink_seen : (nodes : List Node) (r : LeafRole) → is_sink (role_seen nodes r) ≡ is_sink_role r
sink_seen nodes role.Source = refl
sink_seen nodes role.Sink = refl
sink_seen nodes (role.Computed id) = refl
sink_seen nodes (role.Register clock reset) = refl
sink_seen nodes (role.Reading r) = refl
sink_seen nodes (role.Pipe r clock under) = refl

pub depth_seen : (nodes : List Node) (ls : List Leaf) (x : ℕ) → slice_index_or (map (λ (l : Leaf). l.depth) ls) x 0 ≡ (leaf_at (leaves_seen nodes ls) x).depth
depth_seen nodes [] x = refl
depth_seen nodes (l ∷ ls) zero = refl
depth_seen nodes (l ∷ ls) (suc x) = depth_seen nodes ls x

module _ (m : LeafModule) where
  pub leaf_read : (x : ℕ) (l : Leaf) → x < length m.leaves.items → l ≡ get_or m.leaves.items x l → leaf_of_code m x ≡ leaf_seen m.nodes.items l
  leaf_read x l within e =
      let seen = leaf_seen m.nodes.items in
      get_or_from_slice_get (map seen m.leaves.items) x (seen l) no_leaf
      (slice_get-map seen m.leaves.items x ∙ ap (option_map seen) (slice_get_read m.leaves.items (length m.leaves.items) x l refl within e))

  pub sink_read : (x : ℕ) (l : Leaf) → x < length m.leaves.items → l ≡ get_or m.leaves.items x l → is_sink_at m x ≡ is_sink_role l.role
  sink_read x l within e = ap (λ (d : LeafDeclared). is_sink d.role) (leaf_read x l within e) ∙ sink_seen m.nodes.items l.role

  pub covered_read : (depths : List ℕ) (b : LeafBlock) (flags : List Bool) (x : ℕ) (flag : Bool) → depths ≡ depths_of m
      → b ≡ block_in m.nodes.items m.body.items → AreCovered depths b flags → x < length m.leaves.items → flag ≡ get_or flags x flag
      → is_covered_at m x ≡ flag
  covered_read depths b flags x flag are body covered within e =
      let as_many : length depths ≡ length m.leaves.items = ap length are ∙ length-map m.leaves.items (λ (l : Leaf). l.depth) in
      let inside : x < length depths = subst (λ n. x < n) (sym as_many) within in
      let deep : slice_index_or depths x 0 ≡ depth_in m x = ap (λ ds. slice_index_or ds x 0) are ∙ depth_seen m.nodes.items m.leaves.items x in
      ap (λ d. covers_all d x (block_in m.nodes.items m.body.items) 0) (sym deep) ∙ ap (λ c. covers_all (slice_index_or depths x 0) x c 0) (sym body)
      ∙ sym (covered.each x inside) ∙ read_at flags x flag false (subst (λ n. x < n) (sym covered.count) inside) e

  pub one_more_covered : (n : ℕ) → AreCoveredBefore m n → (is_sink_at m n ≡ true → is_covered_at m n ≡ true) → AreCoveredBefore m (n + 1)
  one_more_covered n before here x below sink = by (cases_lt x n)
    where
      by : (x < n) ⊎ (n ≤ x) → is_covered_at m x ≡ true
      by (inl lower) = before x lower sink
      by (inr high) = let e : n ≡ x = omega (arith, below, high) in subst (λ k. is_sink_at m k ≡ true → is_covered_at m k ≡ true) e here sink
