-- What a tree of designs has of the instances in it.
use Rattle.std.proofs.Common.{◌≡◌, ◌⊎◌, ℕ, zero, suc, List, [], ◌∷◌, ◌++◌, Bool, true, false, if◌then◌else◌, Some, option_map, slice_get, refl, sym, ◌∙◌, subst, inl, inr}
use Rattle.std.specs.Str.{bytes_eq}
use Rattle.fir_base.specs.Lists.{In}
use Rattle.fir_base.proofs.Members.{in_left, in_map, in_right}
use Rattle.fir_base.proofs.SameNames.{name_is}
use Rattle.fir_ast.specs.declared.place.Place.{Place}
use Rattle.fir_ast.specs.Expressions.{Expression}
use Rattle.fir_ast.specs.Statements.{Block, Statement, connect, done, instance, invalid, memory, node, partial_connect, register, skip, then, when, wire}
use Rattle.fir_meaning.specs.ComponentTypes.{instance_bundle}
use Rattle.fir_meaning.specs.Components as component
use Rattle.fir_meaning.specs.FoundTypes.{leaves_of_data}
use Rattle.fir_meaning.specs.LeafTypes.{LeafType}
use Rattle.fir_meaning.specs.LeafPaths.{LeafPath, named}
use Rattle.fir_meaning.specs.ModuleScenes.{behind_all_ports, held_by_declared}
use Rattle.fir_meaning.specs.SourceCircuits.{array_order_in, array_order_in_block, array_order_of_design, array_order_of_instance, arrays_of_design, arrays_of_instances, inner_leaves, leaves_of_design, leaves_of_instances, placed, placed_arrays, within, words_in, words_in_block, words_of_design, words_of_instance}
use Rattle.fir_meaning.specs.SourceDesigns.{Instances, SourceDesign, held, no_instances}
use Rattle.fir_meaning.specs.SourceRoles.{SourceLeaf, SourceRole, sink, source, source_arrays, source_leaves_of, sources_in, sources_in_block}
use Rattle.fir_meaning.specs.TypeLeaves.{TypeLeaf, type_leaves}
use Rattle.fir_meaning.specs.Visibility.{Before, behind, behind_block, opened, reopened}
use Rattle.fir_source_laws.specs.working.InstanceLaws.{design_named}
use Rattle.fir_source_laws.specs.working.TreeLaws.{IsHere, PortsAreLeaves, StandsInBlock, StandsWithin, TreesHaveTheirInstances}

-- a list that is put together statement by statement has what each of them gives
module _ {A : Type 0} (place : Before) (x : Statement) (from : Before → Statement → List A) (all_from : Before → Block → List A)
    (when_is : (before : Before) (p : Place) (c : Expression) (a b : Block)
    → from before (when p c a b) ≡ all_from (opened before) a ++ all_from (reopened before (behind_block (opened before) a)) b)
    (then_is : (before : Before) (y : Statement) (b : Block) → all_from before ((then) y b) ≡ from before y ++ all_from (behind before y) b) where
  here : (y : Statement) (before : Before) → (before ≡ place) × (y ≡ x) → (v : A) → In (from place x) v → In (from before y) v
  here y before e v m = subst (λ z. In (from z y) v) (sym e.0) (subst (λ z. In (from place z) v) (sym e.1) m)

  mutual
    in_statement : (y : Statement) (before : Before) → IsHere place x before y ⊎ StandsWithin place x before y → (v : A) → In (from place x) v → In (from before y) v
    in_statement y before (inl e) v m = here y before e v m
    in_statement (when p c a b) before (inr (inl w)) v m =
        subst (λ vs. In vs v) (sym (when_is before p c a b))
        (in_left (all_from (opened before) a) (all_from (reopened before (behind_block (opened before) a)) b) v (in_block a (opened before) w v m))
    in_statement (when p c a b) before (inr (inr w)) v m =
        subst (λ vs. In vs v) (sym (when_is before p c a b))
        (in_right (all_from (opened before) a) (all_from (reopened before (behind_block (opened before) a)) b) v
        (in_block b (reopened before (behind_block (opened before) a)) w v m))
    in_statement (wire p n begins t) before (inr w) v m = absurd w
    in_statement (register p n begins t c r) before (inr w) v m = absurd w
    in_statement (node p n e) before (inr w) v m = absurd w
    in_statement (instance p n other) before (inr w) v m = absurd w
    in_statement (memory p n parts) before (inr w) v m = absurd w
    in_statement (connect p d e) before (inr w) v m = absurd w
    in_statement (partial_connect p d e) before (inr w) v m = absurd w
    in_statement (invalid p d) before (inr w) v m = absurd w
    in_statement (skip p) before (inr w) v m = absurd w

    pub in_block : (b : Block) (before : Before) → StandsInBlock place x before b → (v : A) → In (from place x) v → In (all_from before b) v
    in_block done before w v m = absurd w
    in_block ((then) y b) before (inl w) v m =
        subst (λ vs. In vs v) (sym (then_is before y b)) (in_left (from before y) (all_from (behind before y) b) v (in_statement y before w v m))
    in_block ((then) y b) before (inr w) v m =
        subst (λ vs. In vs v) (sym (then_is before y b)) (in_right (from before y) (all_from (behind before y) b) v (in_block b (behind before y) w v m))

-- a leaf of what is declared, by its place among the leaves of the type
leaf_declared : (name : List ℕ) (role_of : TypeLeaf → SourceRole) (ls : List TypeLeaf) (hs : List LeafType) (k : ℕ) (l : TypeLeaf) (h : LeafType)
    → slice_get ls k ≡ Some l → slice_get hs k ≡ Some h
    → In (source_leaves_of name role_of ls hs) (record { path = named name ∷ l.path; holds = h; role = role_of l })
leaf_declared name role_of [] hs k l h a b = absurd (cc)
leaf_declared name role_of (x ∷ ls) [] k l h a b = absurd (cc)
leaf_declared name role_of (x ∷ ls) (y ∷ hs) zero l h a b =
    let one : x ≡ l = cc in
    let two : y ≡ h = cc in
    rw (one, two) (inl refl)
leaf_declared name role_of (x ∷ ls) (y ∷ hs) (suc k) l h a b = inr (leaf_declared name role_of ls hs k l h a b)

driven_within : (path : LeafPath) (h : LeafType) (flip : Bool)
    → within (record { path = path; holds = h; role = if flip then sink else source }) ≡ record { path = path; holds = h; role = sink }
driven_within path h true = refl
driven_within path h false = refl

pub ports_are_leaves : PortsAreLeaves
ports_are_leaves s is at place p n other m k l h stands found leaf holds =
    let role_of = λ (l : TypeLeaf). if l.flip then sink else source in
    let declared = held_by_declared s (record { named = n; component = component.instance other.name; before = place }) in
    let own : SourceLeaf = record { path = named n.name ∷ l.path; holds = h; role = if l.flip then sink else source } in
    let one : In (sources_in s place (instance p n other)) own =
    subst (λ t. In (source_leaves_of n.name role_of (leaves_of_data (option_map instance_bundle t)) declared) own) (sym found)
    (leaf_declared n.name role_of (type_leaves (instance_bundle m)) declared k l h leaf holds) in
    let all = in_block place (instance p n other) (sources_in s) (sources_in_block s) (λ before p c a b. refl) (λ before y b. refl)
    s.own.inside.body (behind_all_ports s.own.inside) stands own one in
    let inner : In (inner_leaves s) (record { path = named n.name ∷ l.path; holds = h; role = sink }) =
    subst (In (inner_leaves s)) (driven_within (named n.name ∷ l.path) h l.flip)
    (in_map within (sources_in_block s (behind_all_ports s.own.inside) s.own.inside.body) own all) in
    in_left (placed at (inner_leaves s)) (leaves_of_instances at is) (record { at = at; leaf = record { path = named n.name ∷ l.path; holds = h; role = sink } })
    (in_map (λ (l : SourceLeaf). record { at = at; leaf = l }) (inner_leaves s) (record { path = named n.name ∷ l.path; holds = h; role = sink }) inner)

-- what the design of a name has
module _ {A : Type 0} (at : LeafPath) (name : List ℕ) (d : SourceDesign) (of : LeafPath → SourceDesign → List A) where
  among_all : (all : Instances → List A)
      → ((y : List ℕ) (e : SourceDesign) (rest : Instances) → all (held y e rest) ≡ of (at ++ named y ∷ []) e ++ all rest)
      → (is : Instances) → design_named is name ≡ Some d → (v : A) → In (of (at ++ named name ∷ []) d) v → In (all is) v
  among_all all each no_instances h v m = absurd (cc)
  among_all all each (held y e rest) h v m =
      subst (λ vs. In vs v) (sym (each y e rest)) (by (bytes_eq y name) refl h (λ further. among_all all each rest further v m))
    where
      by : (is_so : Bool) → bytes_eq y name ≡ is_so → (if is_so then Some e else design_named rest name) ≡ Some d
          → (design_named rest name ≡ Some d → In (all rest) v) → In (of (at ++ named y ∷ []) e ++ all rest) v
      by true t h further =
          let called : y ≡ name = name_is y name t in
          let one : e ≡ d = cc in
          in_left (of (at ++ named y ∷ []) e) (all rest) v (rw (called, one) m)
      by false t h further = in_right (of (at ++ named y ∷ []) e) (all rest) v (further h)

  named_has : (all : Instances → List ℕ → List A)
      → ((y : List ℕ) (e : SourceDesign) (rest : Instances)
      → all (held y e rest) name ≡ (if bytes_eq y name then of (at ++ named y ∷ []) e else all rest name))
      → (is : Instances) → design_named is name ≡ Some d → all is name ≡ of (at ++ named name ∷ []) d
  named_has all each no_instances h = absurd (cc)
  named_has all each (held y e rest) h = each y e rest ∙ by (bytes_eq y name) refl h (named_has all each rest)
    where
      by : (is_so : Bool) → bytes_eq y name ≡ is_so → (if is_so then Some e else design_named rest name) ≡ Some d
          → (design_named rest name ≡ Some d → all rest name ≡ of (at ++ named name ∷ []) d)
          → (if is_so then of (at ++ named y ∷ []) e else all rest name) ≡ of (at ++ named name ∷ []) d
      by true t h further =
          let called : y ≡ name = name_is y name t in
          let one : e ≡ d = cc in
          rw (called, one) refl
      by false t h further = further h

pub trees_have : TreesHaveTheirInstances
trees_have s is at place p n other d stands found =
    let body = s.own.inside.body in
    let head = behind_all_ports s.own.inside in
    let words = named_has at n.name d words_of_design (words_of_instance at) (λ y e rest. refl) is found in
    let order = named_has at n.name d array_order_of_design (array_order_of_instance at) (λ y e rest. refl) is found in (
      λ l m.
          in_right (placed at (inner_leaves s)) (leaves_of_instances at is) l
          (among_all at n.name d leaves_of_design (leaves_of_instances at) (λ y e rest. refl) is found l m),
      λ l m.
          in_block place (instance p n other) (words_in at s (words_of_instance at is)) (words_in_block at s (words_of_instance at is))
          (λ before p c a b. refl) (λ before y b. refl) body head stands l (subst (λ ws. In ws l) (sym words) m),
      λ a m.
          in_right (placed_arrays at (source_arrays s)) (arrays_of_instances at is) a
          (among_all at n.name d arrays_of_design (arrays_of_instances at) (λ y e rest. refl) is found a m),
      λ a m.
          in_block place (instance p n other) (λ before y. array_order_in at s (array_order_of_instance at is) y)
          (λ before b. array_order_in_block at s (array_order_of_instance at is) b)
          (λ before p c x y. refl) (λ before y b. refl) body head stands a (subst (λ ws. In ws a) (sym order) m),
    )
