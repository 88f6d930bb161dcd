-- A memory of the leaf view is that of a statement of the text: its name, and the clocks of its ports.
use Rattle.std.proofs.Common.{◌≡◌, ◌+◌, List, [], ◌∷◌, ◌++◌, map, flat_map, length, slice_get, Some, None, option_map, refl, sym, ap, ◌∙◌, subst, append_assoc, arith}
use Rattle.std.specs.List.{AllByRecursion}
use Rattle.std.proofs.lemmas.List.{length-map}
use Rattle.std.proofs.lemmas.Option.{get_or_from_slice_get, slice_get-map, slice_get_within}
use Rattle.fir_base.specs.Lists.{In}
use Rattle.fir_base.proofs.Elements.{get_behind, there}
use Rattle.fir_ast.specs.declared.place.Place.{Place}
use Rattle.fir_ast.specs.Circuits.{CircuitTree}
use Rattle.fir_ast.specs.Statements.{MemoryPart, PlacedName, memory}
use Rattle.fir_meaning.specs.Components as component
use Rattle.fir_meaning.specs.Components.{Declaration}
use Rattle.fir_meaning.specs.FoundTypes.{leaves_of_data}
use Rattle.fir_meaning.specs.HeldTypes.{held_types}
use Rattle.fir_meaning.specs.ModuleScenes.{Declared, Scene, held_by_declared, type_of_declared}
use Rattle.fir_meaning.specs.SizedDeclarations.{numbered_modules}
use Rattle.fir_meaning.specs.SizedMemories.{as_written}
use Rattle.fir_meaning.specs.SizedTypes.{numbered}
use Rattle.fir_meaning.specs.SourceMemoryClocks.{port_clocks}
use Rattle.fir_meaning.specs.SourceRoles.{ports_of_part}
use Rattle.fir_meaning.specs.TypeGroup.{type_faults}
use Rattle.fir_meaning.specs.TypeLeaves.{leaf_count, type_leaves}
use Rattle.fir_meaning.specs.Visibility.{Before, declaration_at, declarations}
use Rattle.fir_meaning.specs.working.LeafMemories.{LeafMemory, clocks_from, memory_declared, memory_roles}
use Rattle.fir_meaning.specs.working.LeafModules.{LeafDeclared, MemoryDeclared, no_leaf}
use Rattle.fir_meaning.specs.working.LeafedModules.{leafed_module, leaves_in, memory_before, module_leaves, role_in}
use Rattle.fir_meaning.specs.working.NameGroups.{HasNames}
use Rattle.fir_meaning.proofs.LeafSteps.{path_of}
use Rattle.fir_leaf.specs.working.ClockRoots.{IsClockLeaf}
use Rattle.fir_leaf.specs.working.ModuleCircuits.{module_circuit}
use Rattle.fir_leaf.proofs.DeclaredLeaves.{own_module}
use Rattle.fir_leaf.proofs.LeafPlaces.{get_left, get_right, leaves_counted}
use Rattle.fir_design.proofs.DataHeld.{data_held}
use Rattle.fir_design.proofs.DeclaredMemories.{ports_stand, type_is, word_bundle}
use Rattle.fir_design.proofs.FineScenes.{IsFineScene, fine_scene}
use Rattle.fir_design.proofs.MemoryPortPaths.{port_kinds}
use Rattle.fir_design.proofs.MemoryRoles.{IsMemoryAt}
use Rattle.fir_source_faults.specs.working.ReadsByPath.{path_in}
use Rattle.fir_design_faults.proofs.PortClocks.{HoldFrom, all_clocks, are_clocks, clocks_named, held_there}

pub record MemoryMatch (s : Scene) (mem : MemoryDeclared) (name : PlacedName) (parts : List MemoryPart) : Type 0 where
  pub declared : slice_get (leafed_module s).declared mem.declaration ≡ Some name
  pub clocks : map (path_in s) mem.port_clocks ≡ port_clocks name parts
  pub are : AllByRecursion (IsClockLeaf (module_circuit (leafed_module s))) mem.port_clocks

module _ (c : CircuitTree) (s : Scene) (names : HasNames c) (types : type_faults c ≡ []) (i : In (numbered_modules c) s.own) (before : Before)
    (p : Place) (n : PlacedName) (parts : List MemoryPart) (is : IsMemoryAt s before p n parts) where
  abbrev m : LeafMemory
  m = memory_before s before n parts

  abbrev d : Declared
  d = record { named = n; component = component.memory parts; before = before }

  abbrev own : Declaration
  own = declaration_at before n (component.memory parts)

  fine : IsFineScene s
  fine = fine_scene c s names types i

  data_is : leaf_count is.legal.word_type ≡ m.data_leaves
  data_is = rw is.legal.one_data refl

  long : length (map path_of (type_leaves is.legal.word_type)) ≡ m.data_leaves
  long = length-map (type_leaves is.legal.word_type) path_of ∙ leaves_counted is.legal.word_type ∙ data_is

  holds : HoldFrom s m.first (held_types s.widths (numbered None (word_bundle s fine before n parts is.grows is.legal)))
  holds j h e =
      let bundle = word_bundle s fine before n parts is.grows is.legal in
      let typed = type_is s fine before n parts is.grows is.legal in
      let counted = data_held s.own (own_module c s.own i).start s.widths before n bundle in
      let within = slice_get_within (held_types s.widths (numbered None bundle)) j h e in
      let l = there (type_leaves bundle) j (omega (arith, within, counted, leaves_counted bundle)) in
      let x = held_there d (λ l. n.place) (role_in (memory_roles m)) 0 (leaves_of_data (type_of_declared s d)) (held_by_declared s d) j l.0 h
      (ap (λ o. slice_get (leaves_of_data o) j) typed ∙ l.1) (ap (λ o. slice_get (held_types s.widths (as_written o)) j) typed ∙ e) in
      let whole : slice_get (module_leaves s) (m.first + j) ≡ Some x.0 =
      ap (λ ys. slice_get ys (m.first + j)) (sym is.leaves)
      ∙ get_right is.leaves_front (leaves_in s before (memory p n parts) ++ is.leaves_back) m.first j is.leaves_ahead
      ∙ get_left (leaves_in s before (memory p n parts)) is.leaves_back j x.0 x.1 in (
        slice_get_within (module_leaves s) (m.first + j) x.0 whole,
        ap (λ (l : LeafDeclared). l.holds) (get_or_from_slice_get (module_leaves s) (m.first + j) x.0 no_leaf whole) ∙ x.2,
      )

  pub memory_match : MemoryMatch s (memory_declared (memory_before s before n parts)) n parts
  memory_match = record {
    declared =
        slice_get-map (λ (x : Declaration). x.named) (declarations s.own.inside) (length before.declared)
        ∙ ap (option_map (λ (x : Declaration). x.named))
        (ap (λ ds. slice_get ds (length before.declared)) (sym is.grows.1 ∙ append_assoc before.declared (own ∷ []) is.grows.0)
        ∙ get_behind before.declared is.grows.0 own);
    clocks =
        ap (λ ks. map (path_in s) (clocks_from m.data_leaves m.first ks)) (port_kinds parts)
        ∙ clocks_named s n (map path_of (type_leaves is.legal.word_type)) m.data_leaves long m.first (flat_map ports_of_part parts)
        (ports_stand s fine before n parts is.grows is.legal);
    are =
        subst (λ k. AllByRecursion (IsClockLeaf (module_circuit (leafed_module s))) (clocks_from k m.first m.ports)) data_is
        (are_clocks s (leaf_count is.legal.word_type) m.first m.ports
        (held_types s.widths (numbered None (word_bundle s fine before n parts is.grows is.legal))) holds
        (all_clocks s.widths n.place is.legal.word_type is.legal.words (data_held s.own (own_module c s.own i).start s.widths before n) parts));
  }
