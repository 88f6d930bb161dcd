-- The leaves and the arrays of a memory have the roles that its declaration gives.
use Rattle.std.proofs.Common.{◌≡◌, ℕ, ◌+◌, ◌≤◌, List, [], ◌++◌, map, flat_map, length, slice_get, Some, refl, sym, ap, ◌∙◌, arith}
use Rattle.std.proofs.lemmas.List.{length-map}
use Rattle.fir_base.specs.Lists.{In}
use Rattle.fir_ast.specs.Circuits.{CircuitTree}
use Rattle.fir_ast.specs.Statements.{MemoryPart, PlacedName, memory}
use Rattle.fir_ast.specs.Types.{DataType}
use Rattle.fir_ast.specs.declared.place.Place.{Place}
use Rattle.fir_meaning.specs.Components as component
use Rattle.fir_meaning.specs.Components.{Declaration}
use Rattle.fir_meaning.specs.Costs.{sum_of}
use Rattle.fir_meaning.specs.LeafPaths.{LeafPath, named}
use Rattle.fir_meaning.specs.MemoryTypes.{data_of_part, first_one}
use Rattle.fir_meaning.specs.working.NameGroups.{HasNames}
use Rattle.fir_meaning.specs.SizedDeclarations.{numbered_modules}
use Rattle.fir_meaning.specs.SizedMemories.{sized_array}
use Rattle.fir_meaning.specs.TypeGroup.{type_faults}
use Rattle.fir_meaning.specs.TypeLeaves.{TypeLeaf, type_leaves}
use Rattle.fir_meaning.specs.Visibility.{Before, behind, declarations}
use Rattle.fir_meaning.specs.working.WellTyped.{IsLegal}
use Rattle.fir_meaning.proofs.LeafSteps.{behind_step, path_of}
use Rattle.fir_leaf.specs.working.DesignStates.{array_at, no_array}
use Rattle.fir_leaf.specs.working.LeafLaws.{Begins}
use Rattle.fir_meaning.specs.working.LeafMemories.{LeafMemory, arrays_from, arrays_of, memory_roles}
use Rattle.fir_meaning.specs.FoundTypes.{leaves_of_data}
use Rattle.fir_meaning.specs.working.LeafModules.{LeafArray, LeafDeclared}
use Rattle.fir_meaning.specs.LeafTypes.{LeafType}
use Rattle.fir_meaning.specs.ModuleScenes.{Declared, Scene, held_by_declared, scope_before, type_of_declared}
use Rattle.fir_meaning.specs.working.LeafedModules.{arrays_in, leafed_module, leaves_in, memory_before, module_leaves, role_in}
use Rattle.fir_meaning.specs.HeldTypes.{held_types}
use Rattle.fir_meaning.specs.working.Targets.{leaves_so_far}
use Rattle.fir_leaf.proofs.DeclaredLeaves.{own_module}
use Rattle.fir_leaf.proofs.LeafPlaces.{get_mapped, leaves_counted}
use Rattle.fir_design.specs.working.SameRoles.{SameLeaves, array_on, path_at}
use Rattle.fir_meaning.specs.SourceRoles.{NamedPort, memory_role, ports_of_part, source_arrays_in, sources_in}
use Rattle.fir_design.proofs.DataHeld.{data_held}
use Rattle.fir_design.proofs.DeclaredInstances.{Grows}
use Rattle.fir_design.proofs.DeclaredMemories.{ports_found, ports_stand, type_is, word_bundle}
use Rattle.fir_design.proofs.FineScenes.{IsFineScene, fine_scene, whole_scope}
use Rattle.fir_design.proofs.MemoryArrays.{array_there, arrays_same}
use Rattle.fir_design.proofs.MemoryLeafPaths.{memory_paths}
use Rattle.fir_design.proofs.MemoryPortPaths.{port_kinds, port_paths}
use Rattle.fir_design.proofs.MemoryPortRoles.{ports_same}
use Rattle.fir_design.proofs.MemoryReads.{IsMemoryOf}
use Rattle.fir_design.proofs.MemoryWrites.{writings_same}
use Rattle.fir_design.proofs.RolesInOrder.{SameInOrder, declared_same, role_there}
use Rattle.fir_design.proofs.StandingLists.{Stands, stands_among, stands_mapped}

-- a memory that the module declares at the place: as many leaves and arrays stand before its own as are declared there
pub record IsMemoryAt (s : Scene) (before : Before) (p : Place) (n : PlacedName) (parts : List MemoryPart) : Type 0 where
  pub grows : Grows (behind before (memory p n parts)).declared (declarations s.own.inside)
  pub begins : Begins (scope_before s (behind before (memory p n parts))) (whole_scope s)
  pub legal : IsLegal s.own.modules before (memory p n parts)
  pub leaves_front : List LeafDeclared
  pub leaves_back : List LeafDeclared
  pub leaves : leaves_front ++ (leaves_in s before (memory p n parts) ++ leaves_back) ≡ module_leaves s
  pub leaves_ahead : length leaves_front ≡ leaves_so_far (scope_before s before)
  pub arrays_front : List LeafArray
  pub arrays_back : List LeafArray
  pub arrays : arrays_front ++ (arrays_in s before (memory p n parts) ++ arrays_back) ≡ (leafed_module s).arrays
  pub arrays_ahead : length arrays_front ≡ sum_of (map (λ (d : Declaration). arrays_of d.component) before.declared)

module _ (c : CircuitTree) (s : Scene) (names : HasNames c) (types : type_faults c ≡ []) (i : In (numbered_modules c) s.own) (before : Before)
    (p : Place) (n : PlacedName) (parts : List MemoryPart) (is : IsMemoryAt s before p n parts) where
  abbrev leaves : List LeafDeclared
  leaves = module_leaves s

  abbrev arrays : List LeafArray
  arrays = (leafed_module s).arrays

  abbrev m : LeafMemory
  m = memory_before s before n parts

  -- the leaves of the data, and the ports
  abbrev t : DataType
  t = is.legal.word_type

  abbrev ls : List TypeLeaf
  ls = type_leaves is.legal.word_type

  abbrev qs : List LeafPath
  qs = map path_of (type_leaves is.legal.word_type)

  abbrev ports : List NamedPort
  ports = flat_map ports_of_part parts

  abbrev hs : List LeafType
  hs = held_types s.widths (sized_array parts)

  fine : IsFineScene s
  fine = fine_scene c s names types i

  data_is : leaves_of_data (first_one (flat_map data_of_part parts)) ≡ ls
  data_is = rw is.legal.one_data refl

  data_long : length qs ≡ m.data_leaves
  data_long = length-map ls path_of ∙ leaves_counted t ∙ rw is.legal.one_data refl

  held_long : length ls ≤ length hs
  held_long =
      let held = data_held s.own (own_module c s.own i).start s.widths before n t in
      rw is.legal.one_data (omega (arith, held, leaves_counted t))

  arrays_stand : Stands (λ x. (array_at (leafed_module s).arrays x).path) (behind_step (named n.name)) m.first_array qs
  arrays_stand =
      let at = λ (x : ℕ). (array_at arrays x).path in
      let all : arrays_in s before (memory p n parts) ≡ arrays_from m 0 ls hs = ap (λ ks. arrays_from m 0 ks hs) data_is in
      let there = stands_among (λ (a : LeafArray). a.path) no_array is.arrays_front (arrays_in s before (memory p n parts)) is.arrays_back arrays
      m.first_array is.arrays is.arrays_ahead in
      stands_mapped at (behind_step (named n.name)) m.first_array path_of ls
      (record {
        each = λ k l e.
            let a = array_there m 0 ls hs held_long k l e in there.each k a.0 (ap (λ xs. slice_get xs k) all ∙ a.1) ∙ a.2;
      })

  stand : Stands (path_at leaves) (behind_step (named n.name)) m.first (flat_map (port_paths qs) ports)
  stand = ports_stand s fine before n parts is.grows is.legal

  is_memory : IsMemoryOf leaves arrays n.name parts m qs
  is_memory = record {
    read_latency = refl;
    under_write = refl;
    data_leaves = data_long;
    in_arrays = arrays_stand;
    found = ports_found s fine before n parts is.grows is.legal;
  }

  abbrev all : List TypeLeaf
  all = type_leaves (word_bundle s fine before n parts is.grows is.legal)

  roles_are : SameInOrder leaves arrays (memory_roles m) (map (memory_role n.name parts) (map path_of all))
  roles_are =
      rw (memory_paths n.place t is.legal.words parts, port_kinds parts)
      (ports_same leaves arrays n.name parts m qs is_memory m.first ports (λ q among. among) stand)

  pub memory_leaves_same : SameLeaves (module_leaves s) (leafed_module s).arrays (leaves_in s before (memory p n parts))
      (sources_in s before (memory p n parts))
  memory_leaves_same =
      let d : Declared = record { named = n; component = component.memory parts; before = before } in
      let role_of = memory_role n.name parts in
      declared_same leaves arrays d (λ l. n.place) (role_in (memory_roles m)) (λ l. role_of l.path) 0 (leaves_of_data (type_of_declared s d))
      (held_by_declared s d)
      (λ j l e.
      let none : 0 + j ≡ j = omega arith in
      let there : slice_get all j ≡ Some l =
      ap (λ o. slice_get (leaves_of_data o) j) (sym (type_is s fine before n parts is.grows is.legal)) ∙ e in
      rw none (role_there leaves arrays role_of (memory_roles m) (map path_of all) roles_are j l.path (get_mapped path_of all j l there)))

  pub memory_arrays_same : map (array_on (module_leaves s)) (arrays_in s before (memory p n parts)) ≡ source_arrays_in s (memory p n parts)
  memory_arrays_same =
      arrays_same leaves parts m refl 0 (leaves_of_data (first_one (flat_map data_of_part parts))) hs
      (λ j l e.
      let none : 0 + j ≡ j = omega arith in
      let there : slice_get qs j ≡ Some l.path = get_mapped path_of ls j l (ap (λ ks. slice_get ks j) (sym data_is) ∙ e) in
      rw (none, port_kinds parts) (writings_same leaves n.name qs m.data_leaves data_long j l.path there m.first ports stand))
