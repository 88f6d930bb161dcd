-- The circuit of a design has types where its modules have.
use Rattle.std.proofs.Common.{◌≡◌, ℕ, ◌+◌, ◌-◌, ◌<◌, ◌≤◌, Bool, true, false, nat_lt, length, slice_get, Some, refl, sym, ap, ◌∙◌, subst, inl, inr, arith, length-append, ◌⊎◌}
use Rattle.std.proofs.lemmas.Bool.{ltb-false, ltb-true}
use Rattle.std.proofs.lemmas.List.{get_or-append-add}
use Rattle.std.proofs.lemmas.Option.{same_Some}
use Rattle.fir_base.specs.Lists.{In}
use Rattle.fir_base.proofs.Each.{all_at}
use Rattle.fir_base.proofs.Elements.{get_in, number_of}
use Rattle.fir_ast.specs.Circuits.{CircuitTree}
use Rattle.fir_meaning.specs.LeafTypes.{LeafType}
use Rattle.fir_meaning.specs.ModuleScenes.{Scene, behind_all_ports}
use Rattle.fir_meaning.specs.SourceDependence.{all_modules}
use Rattle.fir_meaning.specs.SourceDesigns.{SourceDesign}
use Rattle.fir_meaning.specs.Visibility.{at_head}
use Rattle.fir_meaning.specs.working.Designs.{IsDesignOf, Items, made_of}
use Rattle.fir_meaning.specs.working.Elaborated.{views}
use Rattle.fir_meaning.specs.working.Flattened.{flattened}
use Rattle.fir_meaning.specs.working.LeafedModules.{leafed_module, leaves_in_block, leaves_of_ports, module_leaves}
use Rattle.fir_meaning.specs.working.LeafModules.{LeafDeclared, LeafModule, Role, leaf_at, no_leaf, role_at, sink, source}
use Rattle.fir_meaning.specs.working.Numberings.{moved_role, number, numbering}
use Rattle.fir_leaf.proofs.FlatMeaning.{main_table}
use Rattle.fir_leaf.proofs.OncePaths.{at_in}
use Rattle.fir_leaf_types.specs.working.TypedModules.{IsModuleTyped, IsRoleTyped, held_in}
use Rattle.fir_leaf_types.specs.working.TypedTerms.{IsNarrow}
use Rattle.fir_design.specs.working.MeaningLaws.{AreDesigns}
use Rattle.fir_design.proofs.FineScenes.{IsFineScene, fine_scene}
use Rattle.fir_design.proofs.NumberedScenes.{scene_numbered, view_at}
use Rattle.fir_design.proofs.PortLeaves.{ports_in}
use Rattle.fir_design_faults.proofs.AllTerms.{RoleReads}
use Rattle.fir_design_faults.proofs.ReadRoles.{inner_roles_read}
use Rattle.fir_design_faults.proofs.SceneReads.{scene_reading}
use Rattle.fir_connect.specs.working.CircuitModules.{as_module}
use Rattle.fir_copies.specs.working.Copies.{Copy, copies_of}
use Rattle.fir_copies.specs.working.WholeDesigns.{DesignsAreTyped}
use Rattle.fir_copies.proofs.CopyLeaves.{copy_holds}
use Rattle.fir_copies.proofs.CopyPlaces.{HaveOneWidths, IsInner}
use Rattle.fir_copies.proofs.MovedTypes.{role_typed}
use Rattle.fir_copies.proofs.OneWidths.{one_widths}
use Rattle.fir_copies.proofs.PortRoles.{port_role_is}
use Rattle.fir_copies.proofs.TypedCopies.{CopyHolds, below_typed}
use Rattle.fir_copies.proofs.WholeCopies.{each_copy, each_inner, main_port}

-- the terms of a leaf's role read leaves of the module
pub role_reads_own : (s : Scene) → IsFineScene s → (x : ℕ) → (leafed_module s).port_leaves ≤ x → x < length (module_leaves s)
    → RoleReads (leafed_module s) (role_at (leafed_module s) x)
role_reads_own s f x le lt =
    let ports = leaves_of_ports s at_head s.own.inside.ports in
    let others = leaves_in_block s (behind_all_ports s.own.inside) s.own.inside.body in
    let is : length ports + (x - length ports) ≡ x = omega (arith, le) in
    let inside : x - length ports < length others = omega (arith, lt, le, length-append ports others) in
    let there : leaf_at (module_leaves s) x ≡ leaf_at others (x - length ports) =
    ap (leaf_at (module_leaves s)) (sym is) ∙ get_or-append-add ports others (x - length ports) no_leaf in
    subst (λ (l : LeafDeclared). RoleReads (leafed_module s) l.role) (sym there)
    (all_at (λ (l : LeafDeclared). RoleReads (leafed_module s) l.role) others (inner_roles_read s f) (leaf_at others (x - length ports))
    (at_in others no_leaf (x - length ports) inside))

module _ (c : CircuitTree) (m : LeafModule) (is : Items) (t : SourceDesign) (a : AreDesigns c (made_of m is) t) (alike : HaveOneWidths a.scenes) (x : ℕ)
    (at : slice_get a.scenes x ≡ Some a.main) (typed : (s : Scene) → In a.scenes s → IsModuleTyped (leafed_module s)) where
  abbrev outer : ℕ → LeafType
  outer = held_in (as_module (flattened (made_of m is)))

  -- what is to hold of the leaf of a number
  abbrev IsLeafTyped : ℕ → Type 0
  IsLeafTyped y =
      IsNarrow (held_in (as_module (flattened (made_of m is))) y)
      × IsRoleTyped (held_in (as_module (flattened (made_of m is)))) (held_in (as_module (flattened (made_of m is))) y)
      (role_at (as_module (flattened (made_of m is))) y)

  fine : (s : Scene) → In a.scenes s → IsFineScene s
  fine s i = fine_scene c s a.names a.types (scene_numbered c a.scenes a.are s i)

  holds : (k : Copy) → In (copies_of x (made_of m is)) k → CopyHolds a.scenes (held_in (as_module (flattened (made_of m is)))) k
  holds k i =
      let s = each_copy c m is t a x at k i in
      record {
        scene = s.scene;
        is = s.is;
        held = copy_holds a.scenes (flattened (made_of m is)).leaves (all_modules t) (copies_of x (made_of m is)) k s alike;
      }

  -- a leaf of the main module's ports, and one of a copy
  main_is : m ≡ leafed_module a.main
  main_is = a.design.is.0

  port_typed : (y : ℕ) → y < m.port_leaves → IsLeafTyped y
  port_typed y lt =
      let here : leaf_at (main_table m is) y ≡ leaf_at (leafed_module a.main).leaves y =
      main_port m is a.design.main.0 y lt ∙ ap (λ (u : LeafModule). leaf_at u.leaves y) main_is in
      let low : y < (leafed_module a.main).port_leaves = subst (λ (u : LeafModule). y < u.port_leaves) main_is lt in
      let narrow = (typed a.main a.among).narrow y (omega (arith, low, ports_in a.main)) in (
        subst IsNarrow (sym (ap (λ (l : LeafDeclared). l.holds) here)) narrow,
        by (role_at (leafed_module a.main) y) (ap (λ (l : LeafDeclared). l.role) here) (port_role_is a.main y low),
      )
    where
      by : (r : Role) → role_at (as_module (flattened (made_of m is))) y ≡ r → (r ≡ source) ⊎ (r ≡ sink) → IsRoleTyped (held_in (as_module (flattened (made_of m is)))) (held_in (as_module (flattened (made_of m is))) y)
          (role_at (as_module (flattened (made_of m is))) y)
      by r e (inl s) = rw (e ∙ s) tt
      by r e (inr s) = rw (e ∙ s) tt

  inner_typed : (y : ℕ) → IsInner a.scenes (flattened (made_of m is)).leaves (copies_of x (made_of m is)) y → IsLeafTyped y
  inner_typed y i =
      let s = each_copy c m is t a x at i.copy i.among in
      let w = leafed_module s.scene in
      let n = numbering w i.copy.first i.copy.own in
      let same : i.scene ≡ s.scene = same_Some i.scene s.scene (sym i.is ∙ s.is) in
      let own : w.port_leaves ≤ i.leaf = subst (λ (u : Scene). (leafed_module u).port_leaves ≤ i.leaf) same i.own in
      let within : i.leaf < length w.leaves = subst (λ (u : Scene). i.leaf < length (module_leaves u)) same i.within in
      let number_is : number n i.leaf ≡ y =
      subst (λ (u : Scene). number (numbering (leafed_module u) i.copy.first i.copy.own) i.leaf ≡ y) same i.number_is in
      let among = get_in a.scenes i.copy.module_number s.scene s.is in
      let all = typed s.scene among in
      let held = copy_holds a.scenes (flattened (made_of m is)).leaves (all_modules t) (copies_of x (made_of m is)) i.copy s alike in
      let role : role_at (as_module (flattened (made_of m is))) (number n i.leaf) ≡ moved_role n i.copy.array (role_at w i.leaf) =
      ap (λ (l : LeafDeclared). l.role) (s.placed i.leaf own within) in
      let moved = role_typed n w refl outer (held_in w) held i.copy.array (held_in w i.leaf) (role_at w i.leaf)
      (role_reads_own s.scene (fine s.scene among) i.leaf own within) (all.roles i.leaf within) in
      subst IsLeafTyped number_is (
        subst IsNarrow (sym (held i.leaf within)) (all.narrow i.leaf within),
        subst (λ h. IsRoleTyped (held_in (as_module (flattened (made_of m is)))) h (role_at (as_module (flattened (made_of m is))) (number n i.leaf)))
            (sym (held i.leaf within))
            (subst (IsRoleTyped (held_in (as_module (flattened (made_of m is)))) (held_in w i.leaf)) (sym role) moved),
      )

  each_typed : (y : ℕ) → y < length (flattened (made_of m is)).leaves → IsLeafTyped y
  each_typed y lt = by (nat_lt y m.port_leaves) refl
    where
      by : (b : Bool) → nat_lt y m.port_leaves ≡ b → IsLeafTyped y
      by true e = port_typed y (ltb-true y m.port_leaves e)
      by false e = inner_typed y (each_inner c m is t a x at y (ltb-false y m.port_leaves e) lt)

  pub whole_typed : IsModuleTyped (as_module (flattened (made_of m is)))
  whole_typed = record {
    body =
        below_typed a.scenes outer (λ s i. scene_reading s (fine s i)) (λ s i. (typed s i).body) (made_of m is) x 0 m.port_leaves 0
        (subst (λ (u : LeafModule). IsDesignOf (views a.scenes) u (made_of m is)) (sym (view_at a.scenes x a.main at)) a.design.is) holds;
    narrow = λ y lt. (each_typed y lt).0;
    roles = λ y lt. (each_typed y lt).1;
  }

pub designs_typed : DesignsAreTyped
designs_typed c (made_of m is) t a widths typed =
    let x = number_of a.scenes a.main a.among in whole_typed c m is t a (one_widths c a.scenes widths) x.0 x.1 typed
