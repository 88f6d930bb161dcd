-- What an instance's leaf holds in the module that has the instance its port holds in the instance's own module, where both have the same widths; and what the
-- instance's module gives is a source, and stands where the port does.
use Rattle.std.proofs.Common.{◌≡◌, ℕ, ◌+◌, ◌<◌, ◌≤◌, List, [], ◌∷◌, length, slice_get, not, Option, Some, option_map, sym, ap, ◌∙◌, subst, arith}
use Rattle.std.proofs.lemmas.List.{get_or_append_left}
use Rattle.std.proofs.lemmas.Option.{get_or_from_slice_get, same_Some, slice_get-map, slice_get_within}
use Rattle.fir_base.specs.Lists.{In}
use Rattle.fir_base.proofs.Elements.{get_behind, get_in, there}
use Rattle.fir_ast.specs.Circuits.{CircuitTree, ModuleTree}
use Rattle.fir_meaning.specs.ComponentTypes.{find_module, instance_bundle, instance_type}
use Rattle.fir_meaning.specs.Elaborated.{AreScenes}
use Rattle.fir_meaning.specs.FoundTypes.{leaves_of_data}
use Rattle.fir_meaning.specs.HeldTypes.{held_types}
use Rattle.fir_meaning.specs.LeafPaths.{LeafPath, named}
use Rattle.fir_meaning.specs.LeafTypes.{LeafType}
use Rattle.fir_meaning.specs.ModuleScenes.{Scene}
use Rattle.fir_meaning.specs.ResetJoins.{numbered_module, port_place}
use Rattle.fir_meaning.specs.SizedDeclarations.{NumberedModule, first_numbers, numbered_modules, sized_instance}
use Rattle.fir_meaning.specs.SizedTypes.{Sized, numbered}
use Rattle.fir_meaning.specs.TypeGroup.{type_faults}
use Rattle.fir_meaning.specs.TypeLeaves.{type_leaves}
use Rattle.fir_meaning.specs.Visibility.{at_head, declarations}
use Rattle.fir_meaning.specs.WidthExpressions.{Widths}
use Rattle.fir_meaning.specs.working.DesignPaths.{instance_name}
use Rattle.fir_meaning.specs.working.LeafedModules.{leafed_module, leaves_of_ports, module_leaves}
use Rattle.fir_meaning.specs.working.LeafModules.{LeafDeclared, leaf_at, may_drive, no_leaf, role_at, sink, source}
use Rattle.fir_meaning.specs.working.NameGroups.{HasNames}
use Rattle.fir_leaf.specs.working.NamedDesigns.{IsPortOf}
use Rattle.fir_leaf.specs.working.SoundDesigns.{IsHeld}
use Rattle.fir_leaf.proofs.LeafPlaces.{leaves_counted}
use Rattle.fir_design.proofs.DeclaredInstances.{IsDeclared, instance_within}
use Rattle.fir_design.proofs.FineScenes.{IsFineScene, fine_scene}
use Rattle.fir_design.proofs.HeldInstances.{Held, all_held_in}
use Rattle.fir_design.proofs.InstanceLeaves.{held_instance, own_instance}
use Rattle.fir_design.proofs.ModuleRanks.{view_declared}
use Rattle.fir_design.proofs.NumberedScenes.{child_numbered, scene_numbered, scene_own, scene_there}
use Rattle.fir_design.proofs.PortLeaves.{port_path, port_scope, ports_long}
use Rattle.fir_source_faults.specs.working.ReadsByPath.{path_in}
use Rattle.fir_source_faults.proofs.ModuleReads.{scene_reads}
use Rattle.fir_design_faults.proofs.PortTurns.{ports_turn}
use Rattle.fir_copies.proofs.CopyPlaces.{HaveOneWidths, IsGivenPort}
use Rattle.fir_copies.proofs.InstanceLeaves.{IsHeldAs, own_leaf}
use Rattle.fir_copies.proofs.PortNumbers.{instance_numbers, ports_hold}
use Rattle.fir_copies.proofs.PortPlaces.{given_stands, port_stands}

-- the leaf of a port holds what the type of the ports does
port_holds : (s : Scene) → s.own.start.scope ≡ [] → (z : ℕ) → z < (leafed_module s).port_leaves
    → slice_get (held_types s.widths (numbered (Some s.own.start.port) (instance_bundle s.own.inside))) z ≡ Some (leaf_at (module_leaves s) z).holds
port_holds s none z lt =
    let ports = leaves_of_ports s at_head s.own.inside.ports in
    let y = there ports z lt in
    let here : leaf_at (module_leaves s) z ≡ y.0 = get_or_append_left ports _ no_leaf z lt ∙ get_or_from_slice_get ports z y.0 no_leaf y.1 in
    ap (λ (hs : List LeafType). slice_get hs z) (sym (ports_hold s none s.own.inside.ports at_head))
    ∙ slice_get-map (λ (l : LeafDeclared). l.holds) ports z ∙ ap (option_map (λ (l : LeafDeclared). l.holds)) y.1
    ∙ ap (λ (l : LeafDeclared). Some l.holds) (sym here)

module _ (c : CircuitTree) (names : HasNames c) (types : type_faults c ≡ []) (scenes : List Scene) (are : AreScenes c scenes) where
  -- of an instance that the module declares
  module _ (s : Scene) (i : In scenes s) (h : Held) (held : In (all_held_in 0 (leafed_module s).body) h) (child : Scene)
      (at : slice_get scenes h.own.module_number ≡ Some child) where
    f : IsFineScene s
    f = fine_scene c s names types (scene_numbered c scenes are s i)

    d : IsDeclared s.own.modules (port_scope s) (declarations s.own.inside) h
    d = (view_declared s).each h held

    modules : s.own.modules ≡ c.modules
    modules = (scene_own c scenes are s i).modules

    numbered_so : numbered_module 0 c.modules d.module_name ≡ Some (h.own.module_number, d.child)
    numbered_so = ap (λ ms. numbered_module 0 ms d.module_name) (sym modules) ∙ d.found

    inside : child.own.inside ≡ d.child
    inside =
        let is = child_numbered c d.module_name h.own.module_number d.child numbered_so in
        let there_is = scene_there c scenes are h.own.module_number d.child is.there in
        let one : there_is.0 ≡ child = same_Some there_is.0 child (sym there_is.1 ∙ at) in
        subst (λ (x : Scene). x.own.inside ≡ d.child) one there_is.2

    found : find_module s.own.modules d.module_name ≡ Some d.child
    found =
        ap (λ ms. find_module ms d.module_name) modules ∙ (child_numbered c d.module_name h.own.module_number d.child numbered_so).found

    type_is : instance_type s.own.modules d.module_name ≡ Some (instance_bundle child.own.inside)
    type_is = ap (option_map instance_bundle) found ∙ ap (λ m. Some (instance_bundle m)) (sym inside)

    sized_is : sized_instance s.own.modules d.module_name ≡ numbered (Some child.own.start.port) (instance_bundle child.own.inside)
    sized_is =
        let own : slice_get (numbered_modules c) h.own.module_number ≡ Some child.own =
        ap (λ (ms : List NumberedModule). slice_get ms h.own.module_number) (sym are)
        ∙ slice_get-map (λ (x : Scene). x.own) scenes h.own.module_number ∙ ap (option_map (λ (x : Scene). x.own)) at in
        ap (λ ms. sized_instance ms d.module_name) modules
        ∙ instance_numbers c.modules (first_numbers c.modules) c.modules 0 d.module_name (h.own.module_number, d.child) h.own.module_number child.own
        numbered_so own (omega arith)

    stands : IsHeld (leafed_module s) h.depth h.own (leafed_module child)
    stands = held_instance s f h d child inside found

    declared : slice_get (declarations s.own.inside) h.own.declaration ≡ Some (instance_within d.named d.module_name h.depth)
    declared =
        ap (slice_get (declarations s.own.inside)) d.declaration ∙ ap (λ ds. slice_get ds (length d.front)) (sym d.is)
        ∙ get_behind d.front d.more (instance_within d.named d.module_name h.depth)

    module _ (z : ℕ) (lt : z < (leafed_module child).port_leaves) where
      y : ℕ
      y = h.own.first + z

      within : h.own.first + z < length (module_leaves s)
      within = omega (arith, lt, stands.within)

      declaration : (leaf_at (module_leaves s) (h.own.first + z)).declaration ≡ h.own.declaration
      declaration = (ports_turn c names types scenes are s i h held child at z lt).declaration

      is : IsHeldAs s d.named d.module_name (leaf_at (module_leaves s) (h.own.first + z))
      is =
          (own_leaf c s names (scene_own c scenes are s i) f (h.own.first + z) (omega (arith, stands.own)) within).given d.named d.module_name h.depth
          (ap (slice_get (declarations s.own.inside)) declaration ∙ declared)

      leaf_there : slice_get (type_leaves (instance_bundle child.own.inside)) is.number ≡ Some is.leaf
      leaf_there = ap (λ o. slice_get (leaves_of_data o) is.number) (sym type_is) ∙ is.leaf_is

      few : is.number < (leafed_module child).port_leaves
      few =
          let t = instance_bundle child.own.inside in
          let low = slice_get_within (type_leaves t) is.number is.leaf leaf_there in
          omega (arith, low, ports_long child, leaves_counted t)

      -- no other leaf has its path
      same_number : is.number ≡ z
      same_number =
          let own = port_path child is.number is.leaf leaf_there few in
          let firsts : named d.named.name ∷ is.leaf.path ≡ named (instance_name (leafed_module s) h.own) ∷ (leaf_at (module_leaves child) z).path =
          sym is.path ∙ stands.path z lt in
          let path : is.leaf.path ≡ (leaf_at (module_leaves child) z).path = cc in
          let both : (leaf_at (module_leaves s) (h.own.first + is.number)).path ≡ (leaf_at (module_leaves s) (h.own.first + z)).path =
          stands.path is.number few
          ∙ ap (λ (q : LeafPath). named (instance_name (leafed_module s) h.own) ∷ q) (own ∙ path) ∙ sym (stands.path z lt) in
          let once = (scene_reads s f).once (h.own.first + is.number) (h.own.first + z) (omega (arith, few, stands.within)) within both in
          omega (arith, once)

      holds : HaveOneWidths scenes → (leaf_at (module_leaves s) (h.own.first + z)).holds ≡ (leaf_at (module_leaves child) z).holds
      holds alike =
          let own = scene_own c scenes are child (get_in scenes h.own.module_number child at) in
          let widths = alike s child i (get_in scenes h.own.module_number child at) in
          let held_at : List LeafType → ℕ → Option LeafType = λ hs k. slice_get hs k in
          same_Some (leaf_at (module_leaves s) (h.own.first + z)).holds (leaf_at (module_leaves child) z).holds
          (sym is.holds_is ∙ ap (slice_get (held_types s.widths (sized_instance s.own.modules d.module_name))) same_number
          ∙ ap (λ (t : Sized). slice_get (held_types s.widths t) z) sized_is
          ∙ ap (λ (w : Widths). slice_get (held_types w (numbered (Some child.own.start.port) (instance_bundle child.own.inside))) z) widths
          ∙ port_holds child own.start z lt)

      gives : role_at (leafed_module child) z ≡ sink → role_at (leafed_module s) (h.own.first + z) ≡ source
      gives e =
          let turned = (ports_turn c names types scenes are s i h held child at z lt).turned in
          is.role (turned ∙ ap (λ r. not (may_drive r)) e)

      place : role_at (leafed_module child) z ≡ sink
          → (leaf_at (module_leaves s) (h.own.first + z)).place ≡ (leaf_at (module_leaves child) z).place
      place e =
          let own : IsFineScene child =
          fine_scene c child names types (scene_numbered c scenes are child (get_in scenes h.own.module_number child at)) in
          let firsts : named d.named.name ∷ is.leaf.path ≡ named (instance_name (leafed_module s) h.own) ∷ (leaf_at (module_leaves child) z).path =
          sym is.path ∙ stands.path z lt in
          let rest : is.leaf.path ≡ path_in child z = cc in
          given_stands s f d.named d.module_name h.depth (h.own.module_number, d.child)
          (get_in (declarations s.own.inside) h.own.declaration (instance_within d.named d.module_name h.depth) declared) d.found
          (h.own.first + z) within is.leaf.path is.path (gives e)
          ∙ ap (λ (m : ModuleTree). port_place d.named.place m.ports is.leaf.path) (sym inside)
          ∙ ap (port_place d.named.place child.own.inside.ports) rest ∙ sym (port_stands child own z lt d.named.place)

  pub ports_given : (s : Scene) → In scenes s → (h : Held) → In (all_held_in 0 (leafed_module s).body) h → (child : Scene)
      → slice_get scenes h.own.module_number ≡ Some child → (z : ℕ) → z < (leafed_module child).port_leaves
      → IsGivenPort scenes (leafed_module s) (leafed_module child) h.own z
  ports_given s i h held child at z lt = record { holds = holds s i h held child at z lt; gives = gives s i h held child at z lt; place = place s i h held child at z lt }

  -- a leaf of the declaration of an instance is one of its ports
  pub instance_port : (s : Scene) → In scenes s → (h : Held) → In (all_held_in 0 (leafed_module s).body) h → (child : Scene)
      → slice_get scenes h.own.module_number ≡ Some child → (x : ℕ) → x < length (module_leaves s)
      → (leaf_at (module_leaves s) x).declaration ≡ h.own.declaration → IsPortOf h.own (leafed_module child) x
  instance_port s i h held child at x lt e =
      (own_instance s (f s i h held child at) h (d s i h held child at) child (inside s i h held child at) (found s i h held child at)).leaves x lt e

  -- none of its ports is one of the module
  pub instance_own : (s : Scene) → In scenes s → (h : Held) → In (all_held_in 0 (leafed_module s).body) h → (child : Scene)
      → slice_get scenes h.own.module_number ≡ Some child → (leafed_module s).port_leaves ≤ h.own.first
  instance_own s i h held child at = (stands s i h held child at).own
