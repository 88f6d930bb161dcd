-- What is found in the copies of a design is told of the circuit's source.
use Rattle.std.proofs.Common.{◌≡◌, ℕ, ◌<◌, ◌≤◌, List, [], ◌∷◌, ◌++◌, length, slice_get, false, Option, Some, None, option_map, refl, sym, ap, ap₂, ◌∙◌, subst, append-nil, arith}
use Rattle.std.proofs.lemmas.Bool.Decides.{nat_tests}
use Rattle.std.proofs.lemmas.Option.{same_Some, slice_get-map, slice_get_within}
use Rattle.fir_base.specs.Lists.{In}
use Rattle.fir_base.proofs.Elements.{get_in, number_of, there}
use Rattle.fir_ast.specs.declared.fault.FirFault.{FirFault}
use Rattle.fir_ast.specs.declared.place.Place.{Place}
use Rattle.fir_ast.specs.Circuits.{CircuitTree}
use Rattle.fir_ast.specs.Faults.{Fault}
use Rattle.fir_ast.specs.Statements.{PlacedName}
use Rattle.fir_ast.specs.working.CodeFaults.{fault_of}
use Rattle.fir_meaning.specs.Elaborated.{IsSourceOf}
use Rattle.fir_meaning.specs.Lack.{is_before}
use Rattle.fir_meaning.specs.LeafPaths.{LeafPath, named, path_text}
use Rattle.fir_meaning.specs.ModuleScenes.{Scene}
use Rattle.fir_meaning.specs.Scenes.{IsSceneOf}
use Rattle.fir_meaning.specs.SizedDeclarations.{numbered_modules}
use Rattle.fir_meaning.specs.SourceDependence.{PlacedModule, all_modules}
use Rattle.fir_meaning.specs.SourceDesigns.{IsSourceDesignOf, SourceDesign}
use Rattle.fir_meaning.specs.SourceMemoryClocks.{memory_clocks_fault}
use Rattle.fir_meaning.specs.working.LeafModules.{LeafModule}
use Rattle.fir_meaning.specs.working.LeafNames.{path_of_leaf}
use Rattle.fir_meaning.specs.working.LeafedModules.{leafed_module, module_leaves}
use Rattle.fir_leaf.specs.working.ClockRoots.{IsClockLeaf}
use Rattle.fir_leaf.specs.working.MemoryClockFaults.{HasClock, ShowsMemoryClocks, path_within}
use Rattle.fir_leaf.specs.working.ModuleCircuits.{module_circuit}
use Rattle.fir_leaf.proofs.TableStores.{numbers_are_leaves}
use Rattle.fir_leaf_circuit.specs.declared.leaf_module.LeafModule.{LeafModule as ModuleOfCode}
use Rattle.fir_leaf_circuit.specs.working.Leafed.{AreLeafed}
use Rattle.fir_leaf_text.specs.working.DeclaredNames.{names_in_module}
use Rattle.fir_leaf_text.proofs.SceneLeaves.{inside_there}
use Rattle.fir_design.specs.working.MeaningLaws.{AreDesigns}
use Rattle.fir_design.specs.working.SourceLaws.{HasOneTree}
use Rattle.fir_design.proofs.FineScenes.{IsFineScene, fine_scene, leaf_is}
use Rattle.fir_design.proofs.NumberedScenes.{scene_numbered}
use Rattle.fir_design_faults.specs.working.MemoryFaults.{ShowsMemoryFault, TellsMemoryFault}
use Rattle.fir_design_faults.specs.working.SameMemoryFaults.{SameMemoryFaults}
use Rattle.fir_elaborate.specs.declared.elaborated.ModuleCopy.{ModuleCopy}
use Rattle.fir_elaborate.specs.working.CopyPaths.{prefix_text}
use Rattle.fir_whens.specs.declared.module_net.ModuleNet.{ModuleNet}
use Rattle.fir_whens.specs.working.ModuleFaults.{AreAllDriven}
use Rattle.fir_whens.specs.working.ModuleNets.{AreAllTyped}
use Rattle.fir_whens.specs.working.NetCircuits.{AreNets}
use Rattle.fir_memory_clocks.specs.declared.first_site.Site.{Site}
use Rattle.fir_memory_clocks.specs.declared.module_memories.FoundMemory.{FoundMemory}
use Rattle.fir_memory_clocks.specs.working.FirstMemories.{IsFirstBefore, IsFirstSite, IsFoundAt}
use Rattle.fir_memory_clocks.specs.working.MemoriesTold.{AreClearCopies, AreNamesOf, IsToldOf, TellsFirst, TellsSite, ShowsNone, fault_behind}
use Rattle.fir_memory_clocks.specs.working.ModuleMemories.{AreFirstMemories, HasOneClocks, IsClearModule, IsFirstAmong, IsFirstFound, IsNamedMemory, IsOnTwoClocks}
use Rattle.fir_memory_clocks.proofs.CopiesOfTrees.{AreBeside, IsBeside, copies_beside}
use Rattle.fir_memory_clocks.proofs.FoundMemories.{first_among, neither_before, not_both, other_among}
use Rattle.fir_memory_clocks.proofs.MemoryPlaces.{named_memory}
use Rattle.fir_memory_clocks.proofs.NamesOfScenes.{names_of_scene}
use Rattle.fir_memory_clocks.proofs.OneScene.{one_list, one_main, one_scene}
use Rattle.fir_memory_clocks.proofs.PrefixedPaths.{prefixed}
use Rattle.fir_memory_clocks.proofs.RootsOfModules.{root_is_leaf}

-- ---- places of which neither is before the other are the same

same_number : (p q : Place) → is_before p q ≡ false → is_before q p ≡ false → (p.line ≡ q.line) × (p.col ≡ q.col)
same_number p q e f = (grind (arith, nat_tests), grind (arith, nat_tests))

same_place : (p q : Place) → is_before p q ≡ false → is_before q p ≡ false → p ≡ q
same_place p q e f =
    let same = same_number p q e f in
    ap₂ (λ (l c : ℕ). record { line = l; col = c }) same.0 same.1

-- ---- a memory of a module, in the words of the definitions

module _ (m : LeafModule) where
  shows : (at : LeafPath) (name : PlacedName) (d a b : ℕ) → IsOnTwoClocks m m.memories name d a b
      → ShowsMemoryClocks m at (memory_clocks_fault name.place (path_text (at ++ named name.name ∷ [])) (path_within at m a) (path_within at m b))
  shows at name d a b h = record {
    memory = h.memory;
    declared = h.among;
    name = name;
    is_name = ap (slice_get m.declared) h.declaration_is ∙ h.is_name;
    before = h.clocks.before;
    one = h.clocks.one;
    between = h.clocks.between;
    other = h.clocks.other;
    after = h.clocks.after;
    ports = h.clocks.ports_are;
    clock = a;
    other_clock = b;
    none_before = h.clocks.none_before;
    one_has = h.clocks.one_has;
    same_between = h.clocks.same_between;
    other_has = h.clocks.other_has;
    differ = h.clocks.differ;
    is = refl;
  }

  shown : (at : LeafPath) (f : Fault) (h : ShowsMemoryClocks m at f) → IsOnTwoClocks m m.memories h.name h.memory.declaration h.clock h.other_clock
  shown at f h = record {
    memory = h.memory;
    among = h.declared;
    declaration_is = refl;
    is_name = h.is_name;
    clocks = record {
      before = h.before;
      one = h.one;
      between = h.between;
      other = h.other;
      after = h.after;
      ports_are = h.ports;
      none_before = h.none_before;
      one_has = h.one_has;
      same_between = h.same_between;
      other_has = h.other_has;
      differ = h.differ;
    };
  }

  -- its clocks are leaves
  module _ (clear : IsClearModule m) (name : PlacedName) (d a b : ℕ) (h : IsOnTwoClocks m m.memories name d a b) where
    own : (n : PlacedName) × IsNamedMemory m h.memory n
    own = clear.named h.memory h.among

    clock_leaf : IsClockLeaf (module_circuit m) a
    clock_leaf =
        root_is_leaf m h.clocks.one a (own.1.clocks h.clocks.one (first_among (HasClock m) h.memory.port_clocks a b h.clocks)) h.clocks.one_has

    other_leaf : IsClockLeaf (module_circuit m) b
    other_leaf =
        root_is_leaf m h.clocks.other b (own.1.clocks h.clocks.other (other_among (HasClock m) h.memory.port_clocks a b h.clocks)) h.clocks.other_has

-- a path of a leaf of a module, behind that of an instance
leaf_behind : (s : Scene) → IsFineScene s → (at : LeafPath) (x : ℕ) → x < length (module_leaves s)
    → prefix_text at ++ path_of_leaf (module_circuit (leafed_module s)) x ≡ path_within at (leafed_module s) x
leaf_behind s fine at x lt =
    let is = leaf_is s fine x lt in
    let steps = is.leaf.path in
    ap (λ (q : LeafPath). prefix_text at ++ path_text q) is.path ∙ sym (prefixed at is.known.name steps)
    ∙ ap (λ (q : LeafPath). path_text (at ++ q)) (sym is.path)

name_behind : (at : LeafPath) (n : List ℕ) → prefix_text at ++ n ≡ path_text (at ++ named n ∷ [])
name_behind at n = ap (λ ts. prefix_text at ++ ts) (sym (append-nil n)) ∙ sym (prefixed at n [])

module _ (c : CircuitTree) (copies : List ModuleCopy) (h : AreClearCopies c copies) (typed : AreAllTyped c) (driven : AreAllDriven c) (parts : List ModuleOfCode)
    (leafed : AreLeafed c parts) (nets : List ModuleNet) (are_nets : AreNets c nets) (found : List (Option FoundMemory))
    (firsts : AreFirstMemories parts nets copies found) where
  -- ---- the module of a copy

  module _ (k : ModuleCopy) (among : In copies k) (s : Scene) (at : slice_get h.scenes k.module_number ≡ Some s) where
    is_scene : IsSceneOf c k.module_number s
    is_scene = h.has.each k.module_number s at

    numbered : In (numbered_modules c) s.own
    numbered = scene_numbered c h.scenes h.has.are s (get_in h.scenes k.module_number s at)

    fine_is : IsFineScene s
    fine_is = fine_scene c s h.names h.types numbered

    clear_module : IsClearModule (leafed_module s)
    clear_module = record {
      typed = typed k.module_number s is_scene;
      within = numbers_are_leaves c s h.names h.types numbered;
      driven = driven k.module_number s is_scene;
      clear = h.clear k s among at;
      named = λ memory i. named_memory c s h.names h.types numbered memory i;
    }

    inside : slice_get c.modules k.module_number ≡ Some s.own.inside
    inside = inside_there c k.module_number s.own is_scene.own

    there_is : k.module_number < length c.modules
    there_is = slice_get_within c.modules k.module_number s.own.inside inside

    -- what was found there
    find_there : (v : Option FoundMemory) × (slice_get found k.module_number ≡ Some v)
    find_there =
        let many = firsts.count in
        there found k.module_number (omega (arith, there_is, many, leafed.count))

    found_first : (v : Option FoundMemory) → slice_get found k.module_number ≡ Some v → IsFirstAmong (leafed_module s) (leafed_module s).memories v
    found_first v e =
        let part = there parts k.module_number (omega (arith, there_is, leafed.count)) in
        let net = there nets k.module_number (omega (arith, there_is, are_nets.count)) in
        firsts.each k part.0 net.0 v among part.1 net.1 e (leafed_module s) (leafed.each k.module_number part.0 s part.1 is_scene)
        (are_nets.each k.module_number net.0 s net.1 is_scene) clear_module

  -- ---- the tree

  abbrev designs : (t : SourceDesign) → IsSourceDesignOf h.scenes h.main t → AreDesigns c h.design t
  designs t is = record {
    names = h.names;
    types = h.types;
    scenes = h.scenes;
    are = h.has.are;
    main = h.main;
    among = h.among;
    design = h.sound;
    tree = is;
  }

  beside : (t : SourceDesign) → IsSourceDesignOf h.scenes h.main t → AreBeside h.scenes copies t
  beside t is = copies_beside c h.design t (designs t is) h.number copies h.at h.are h.prefixes

  source_is : (t : SourceDesign) → IsSourceOf c t → IsSourceDesignOf h.scenes h.main t
  source_is t source =
      subst (λ (ss : List Scene). IsSourceDesignOf ss h.main t) (one_list c source.scenes h.scenes source.main h.main source.has h.has)
      (subst (λ (s : Scene). IsSourceDesignOf source.scenes s t) (one_main c source.scenes h.scenes source.main h.main source.has h.has) source.is)

  -- a fault of the tree stands at a copy
  record IsAtCopy (t : SourceDesign) (f : Fault) (shown_there : ShowsMemoryFault t f) : Type 0 where
    copy : ModuleCopy
    is : slice_get copies shown_there.number ≡ Some copy
    scene : slice_get h.scenes copy.module_number ≡ Some shown_there.holder.scene

  at_copy : (t : SourceDesign) → IsSourceDesignOf h.scenes h.main t → (f : Fault) (there_shown : ShowsMemoryFault t f) → IsAtCopy t f there_shown
  at_copy t tree f q =
      let b = beside t tree in
      let k = there copies q.number (let lt = slice_get_within (all_modules t) q.number q.holder q.is_holder in omega (arith, lt, b.count)) in
      record { copy = k.0; is = k.1; scene = (b.each q.number k.0 q.holder k.1 q.is_holder).scene }

  -- where a memory was found
  module _ (t : SourceDesign) (tree : IsSourceDesignOf h.scenes h.main t) (f : Fault) (q : ShowsMemoryFault t f) where
    record IsFoundThere : Type 0 where
      memory : FoundMemory
      at : IsFoundAt found copies q.number memory
      before : is_before q.shows.name.place memory.place ≡ false

    found_there : IsFoundThere
    found_there = by z.0 z.1 (found_first a.copy among q.holder.scene a.scene z.0 z.1)
      where
        a : IsAtCopy t f q
        a = at_copy t tree f q

        among : In copies a.copy
        among = get_in copies q.number a.copy a.is

        z : (v : Option FoundMemory) × (slice_get found a.copy.module_number ≡ Some v)
        z = find_there a.copy among q.holder.scene a.scene

        on : IsOnTwoClocks (leafed_module q.holder.scene) (leafed_module q.holder.scene).memories q.shows.name q.shows.memory.declaration q.shows.clock q.shows.other_clock
        on = shown (leafed_module q.holder.scene) q.holder.at f q.shows

        by : (v : Option FoundMemory) → slice_get found a.copy.module_number ≡ Some v
            → IsFirstAmong (leafed_module q.holder.scene) (leafed_module q.holder.scene).memories v → IsFoundThere
        by None e none =
            absurd (not_both (HasClock (leafed_module q.holder.scene)) on.memory.port_clocks q.shows.clock q.shows.other_clock on.clocks (none on.memory on.among))
        by (Some v) e first = record {
          memory = v;
          at = record { copy = a.copy; is = a.is; memory = e };
          before = first.first q.shows.name q.shows.memory.declaration q.shows.clock q.shows.other_clock on;
        }

  -- ---- nothing is found

  module _ (none : IsFirstBefore found copies (length copies) None) where
    none_shown : (t : SourceDesign) → IsSourceDesignOf h.scenes h.main t → (f : Fault) → ShowsMemoryFault t f → ⊥
    none_shown t tree f q =
        let r = found_there t tree f q in
        none q.number r.memory (slice_get_within copies q.number r.at.copy r.at.is) r.at

    -- the copy's module stands among the scenes
    one_in : (t : SourceDesign) → IsSourceDesignOf h.scenes h.main t → (k : ModuleCopy) (s : Scene) → In copies k → IsSceneOf c k.module_number s
        → HasOneClocks (leafed_module s)
    one_in t tree k s among scene =
        let i = number_of copies k among in
        let b = beside t tree in
        let lt = slice_get_within copies i.0 k i.1 in
        let holder = there (all_modules t) i.0 (omega (arith, lt, b.count)) in
        let own = (b.each i.0 k holder.0 i.1 holder.1).scene in
        let same : holder.0.scene ≡ s =
        one_scene c k.module_number holder.0.scene s (h.has.each k.module_number holder.0.scene own) scene in
        let z = find_there k among holder.0.scene own in
        subst (λ (u : Scene). HasOneClocks (leafed_module u)) same (by holder.0.scene z.0 z.1 (found_first k among holder.0.scene own z.0 z.1) i.0 i.1)
      where
        by : (u : Scene) (v : Option FoundMemory) → slice_get found k.module_number ≡ Some v → IsFirstAmong (leafed_module u) (leafed_module u).memories v
            → (i : ℕ) → slice_get copies i ≡ Some k → HasOneClocks (leafed_module u)
        by u None e first i is = first
        by u (Some v) e first i is =
            absurd (none i v (slice_get_within copies i k is) (record { copy = k; is = is; memory = e }))

    pub shows_none : HasOneTree → SameMemoryFaults → ShowsNone c copies
    shows_none one law =
        let tree = one c h.scenes h.main h.design h.names h.types h.has.are h.among h.sound.is in
        record {
          clear = λ f q.
              let tree_is = source_is q.source q.is_source in
              none_shown q.source tree_is f ((law c q.source f h.names h.types q.is_source).0.1 q.holds);
          one = λ k s among scene. one_in tree.0 tree.1 k s among scene;
        }

  -- ---- one is found

  module _ (site : Site) (first : IsFirstSite found copies (length copies) site) (names : List (List (List ℕ))) (are_names : AreNamesOf c names)
      (told : Option FirFault) (tells : TellsSite c names copies site told) where
    record IsTold (t : SourceDesign) (f : Fault) : Type 0 where
      is : option_map fault_of told ≡ Some f
      tells_it : TellsMemoryFault t f

    told_by : (t : SourceDesign) → IsSourceDesignOf h.scenes h.main t → (f : Fault) × IsTold t f
    unfolding shows found_first
    told_by t tree = (fault, record { is = is_told; tells_it = tells_it })
      where
        k : ModuleCopy
        k = first.at.copy

        among : In copies k
        among = get_in copies site.copy k first.at.is

        holder : (o : PlacedModule) × (slice_get (all_modules t) site.copy ≡ Some o)
        holder =
            let b = beside t tree in
            let lt = slice_get_within copies site.copy k first.at.is in
            there (all_modules t) site.copy (omega (arith, lt, b.count))

        own : IsBeside h.scenes k holder.0
        own = (beside t tree).each site.copy k holder.0 first.at.is holder.1

        s : Scene
        s = holder.0.scene

        m : LeafModule
        m = leafed_module s

        v : FoundMemory
        v = site.memory

        it : IsFirstFound m m.memories v
        it = found_first k among s own.scene (Some v) first.at.memory

        clear : IsClearModule m
        clear = clear_module k among s own.scene

        on : IsOnTwoClocks m m.memories it.name v.declaration v.clocks.clock v.clocks.other_clock
        on = it.is

        fault : Fault
        fault =
            memory_clocks_fault it.name.place (path_text (holder.0.at ++ named it.name.name ∷ [])) (path_within holder.0.at m v.clocks.clock)
            (path_within holder.0.at m v.clocks.other_clock)

        clock_there : v.clocks.clock < length m.leaves
        clock_there = (clock_leaf m clear it.name v.declaration v.clocks.clock v.clocks.other_clock on).within

        other_there : v.clocks.other_clock < length m.leaves
        other_there = (other_leaf m clear it.name v.declaration v.clocks.clock v.clocks.other_clock on).within

        names_there : slice_get names k.module_number ≡ Some (names_in_module s.own.inside)
        names_there =
            ap (λ ys. slice_get ys k.module_number) are_names ∙ slice_get-map names_in_module c.modules k.module_number
            ∙ ap (option_map names_in_module) (inside k among s own.scene)

        name_there : slice_get (names_in_module s.own.inside) v.declaration ≡ Some it.name.name
        name_there =
            ap (λ ys. slice_get ys v.declaration) (names_of_scene s) ∙ slice_get-map (λ (n : PlacedName). n.name) m.declared v.declaration
            ∙ ap (option_map (λ (n : PlacedName). n.name)) on.is_name

        behind_is : fault_behind k.prefix m it.name.name v ≡ fault
        behind_is =
            let fine = fine_is k among s own.scene in
            ap (λ ts. fault_behind ts m it.name.name v) own.prefix
            ∙ ap (λ p. memory_clocks_fault p (prefix_text holder.0.at ++ it.name.name) (prefix_text holder.0.at ++ path_of_leaf (module_circuit m) v.clocks.clock)
            (prefix_text holder.0.at ++ path_of_leaf (module_circuit m) v.clocks.other_clock)) it.place
            ∙ ap (λ ts. memory_clocks_fault it.name.place ts (prefix_text holder.0.at ++ path_of_leaf (module_circuit m) v.clocks.clock)
            (prefix_text holder.0.at ++ path_of_leaf (module_circuit m) v.clocks.other_clock)) (name_behind holder.0.at it.name.name)
            ∙ ap₂ (memory_clocks_fault it.name.place (path_text (holder.0.at ++ named it.name.name ∷ [])))
            (leaf_behind s fine holder.0.at v.clocks.clock clock_there) (leaf_behind s fine holder.0.at v.clocks.other_clock other_there)

        is_told : option_map fault_of told ≡ Some fault
        is_told =
            tells k s (names_in_module s.own.inside) it.name.name first.at.is (is_scene k among s own.scene) names_there name_there clock_there other_there
            ∙ ap Some behind_is

        shown_here : ShowsMemoryFault t fault
        shown_here = record {
          number = site.copy;
          holder = holder.0;
          is_holder = holder.1;
          shows = shows m holder.0.at it.name v.declaration v.clocks.clock v.clocks.other_clock on;
        }

        not_ahead : (other : Fault) (q : ShowsMemoryFault t other) → is_before q.shows.name.place v.place ≡ false
        not_ahead other q =
            let r = found_there t tree other q in
            neither_before v.place r.memory.place q.shows.name.place
            (first.first q.number r.memory (slice_get_within copies q.number r.at.copy r.at.is) r.at) r.before

        copy_first : (other : Fault) (q : ShowsMemoryFault t other) → q.shows.name.place ≡ it.name.place → site.copy ≤ q.number
        copy_first other q same =
            let r = found_there t tree other q in
            let lt = slice_get_within copies q.number r.at.copy r.at.is in
            let behind = first.first q.number r.memory lt r.at in
            let here : q.shows.name.place ≡ v.place = same ∙ sym it.place in
            let ahead : is_before v.place r.memory.place ≡ false = ap (λ p. is_before p r.memory.place) (sym here) ∙ r.before in
            first.first_copy q.number r.memory lt r.at (same_place r.memory.place v.place behind ahead)

        tells_it : TellsMemoryFault t fault
        tells_it = record {
          told = shown_here;
          first = λ other q. ap (is_before q.shows.name.place) (sym it.place) ∙ not_ahead other q;
          first_instance = λ other q same. copy_first other q same;
        }

    pub is_told_of : HasOneTree → SameMemoryFaults → IsToldOf c copies told
    is_told_of one law =
        let tree = one c h.scenes h.main h.design h.names h.types h.has.are h.among h.sound.is in
        let r = told_by tree.0 tree.1 in
        by told tree.0 (record { scenes = h.scenes; main = h.main; has = h.has; is = tree.1 }) r.0 r.1.is r.1.tells_it
      where
        by : (o : Option FirFault) (t : SourceDesign) → IsSourceOf c t → (f : Fault) → option_map fault_of o ≡ Some f → TellsMemoryFault t f → IsToldOf c copies o
        by None t source f e q = absurd (cc)
        by (Some g) t source f e q =
            let same : f ≡ fault_of g = same_Some f (fault_of g) (sym e) in
            let both = law c t f h.names h.types source in
            subst (TellsFirst c) same (record {
              told = record { source = t; is_source = source; holds = both.1.0 q };
              shown = record { source = t; is_source = source; holds = both.0.0 q.told };
            })
