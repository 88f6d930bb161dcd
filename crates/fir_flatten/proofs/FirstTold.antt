-- The first fault of clocks by the copies of a design is the first by its tree.
use Rattle.std.proofs.Common.{◌≡◌, ℕ, ◌+◌, ◌<◌, ◌≤◌, List, [], ◌++◌, map, length, slice_get, true, false, Some, None, option_map, refl, sym, ap, ap₂, ◌∙◌, subst, inl, inr, ⊎_elim, arith}
use Rattle.std.proofs.lemmas.List.{length-map}
use Rattle.std.proofs.lemmas.Option.{same_Some, slice_get-map, slice_get_within}
use Rattle.fir_base.specs.Lists.{In}
use Rattle.fir_base.proofs.Elements.{get_in, number_of, there}
use Rattle.fir_ast.specs.declared.place.Place.{Place}
use Rattle.fir_ast.specs.Circuits.{CircuitTree}
use Rattle.fir_ast.specs.Faults.{Fault}
use Rattle.fir_meaning.specs.LeafPaths.{LeafPath}
use Rattle.fir_meaning.specs.ModuleScenes.{Scene}
use Rattle.fir_meaning.specs.SourceCircuits.{PlacedLeaf, all_leaves, is_sink_role}
use Rattle.fir_meaning.specs.SourceClocks as tree
use Rattle.fir_meaning.specs.SourceClocks.{ShowsClockFault, TellsClockFault}
use Rattle.fir_meaning.specs.SourceDependence.{PlacedModule, all_modules}
use Rattle.fir_meaning.specs.SourceDesigns.{SourceDesign}
use Rattle.fir_meaning.specs.SourceFacts.{source_may_drive}
use Rattle.fir_meaning.specs.SourceLoops.{StandsAt}
use Rattle.fir_meaning.specs.SourceRanks.{HasRank, IsGivenIn, Rank, comes_before}
use Rattle.fir_meaning.specs.SourceRoles as sources
use Rattle.fir_meaning.specs.SourceRoles.{SourceRole}
use Rattle.fir_meaning.specs.working.Designs.{Items, made_of}
use Rattle.fir_meaning.specs.working.Flattened.{flattened}
use Rattle.fir_meaning.specs.working.LeafCircuits.{LeafCircuit, role_of}
use Rattle.fir_meaning.specs.working.LeafModules as role
use Rattle.fir_meaning.specs.working.LeafModules.{LeafDeclared, LeafModule, Role, leaf_at, role_at}
use Rattle.fir_meaning.specs.working.LeafNames.{place_of_leaf}
use Rattle.fir_meaning.specs.working.LeafedModules.{leafed_module}
use Rattle.fir_meaning.specs.working.Numberings.{Numbering, moved_role, number, numbering}
use Rattle.fir_leaf.specs.working.ModuleCircuits.{module_circuit}
use Rattle.fir_leaf.specs.working.SoundDesigns.{circuit_path}
use Rattle.fir_leaf.specs.working.ClockFaults as numbered
use Rattle.fir_design.specs.working.MeaningLaws.{AreDesigns}
use Rattle.fir_design.proofs.FineScenes.{leaf_path as path_of_leaf_is}
use Rattle.fir_design.proofs.HeldInstances.{Held, all_held_in}
use Rattle.fir_design.proofs.InStep.{SameRoleBelow}
use Rattle.fir_design.proofs.ListsInStep.{step_at, step_long}
use Rattle.fir_design.proofs.SourceLeaves.{source_may_drive_is}
use Rattle.fir_source_faults.specs.working.ReadsByPath.{path_in}
use Rattle.fir_design_faults.proofs.ClockFaults.{IsTreeLeaf, SameClockLeaves, picked_by_number, picked_by_path, two_by_number, two_by_path}
use Rattle.fir_design_faults.proofs.ClockRoles.{sink_by_number, sink_by_path}
use Rattle.fir_design_faults.proofs.DesignClocks.{clock_leaves}
use Rattle.fir_design_faults.proofs.ModulesOnce.{modules_once}
use Rattle.fir_design_faults.proofs.WholeDesigns.{module_fine}
use Rattle.fir_copies.specs.working.Copies.{Copy, copies_of}
use Rattle.fir_copies.specs.working.CopyLaws.{IsGivenBy, IsMainInput}
use Rattle.fir_copies.proofs.CopyPlaces.{CopyStands, HasChild, HaveOneWidths, IsCopyOf}
use Rattle.fir_copies.proofs.GivenLeaves.{all_given}
use Rattle.fir_copies.proofs.OneWidths.{one_widths}
use Rattle.fir_copies.proofs.WholeCopies.{copies_in_step, each_copy, main_port}
use Rattle.fir_elaborate.specs.declared.elaborated.ModuleCopy.{ModuleCopy}
use Rattle.fir_elaborate.specs.working.CopyPaths.{paths_below, prefix_text}
use Rattle.fir_elaborate.specs.working.Elaborations.{copy_seen}
use Rattle.fir_flatten.specs.working.ClockTold.{FirstIsTold, IsFirstShown, IsShownAt, ShowsPlaces, fault_behind, rank}
use Rattle.fir_flatten.proofs.DrivablePaths.{driven_leaf}
use Rattle.fir_flatten.proofs.GivenRanks.{later, number_less}
use Rattle.fir_flatten.proofs.MovedFaults.{ShowsFault, fault_is, inner_is, instances_there, moved_no_source, moved_sink, place_is, places_of, role_is, shown_given, shows_of, to_circuit, to_module}
use Rattle.fir_flatten.proofs.PathsOfCopies.{design_paths}
use Rattle.fir_flatten.proofs.PrefixedPaths.{same_begin}

source_there : (c : LeafCircuit) (at : LeafPath) (r : Role) → SameRoleBelow c at r sources.source → r ≡ role.source
source_there c at role.source h = refl
source_there c at role.sink h = absurd h
source_there c at (role.computed t) h = absurd h
source_there c at (role.register k r) h = absurd h
source_there c at (role.reading r) h = absurd h
source_there c at (role.pipe r k u) h = absurd h

module _ (c : CircuitTree) (m : LeafModule) (is : Items) (t : SourceDesign) (a : AreDesigns c (made_of m is) t) (x : ℕ)
    (at : slice_get a.scenes x ≡ Some a.main) (alike : HaveOneWidths a.scenes) (copies : List ModuleCopy) (seen : map copy_seen copies ≡ copies_of x (made_of m is))
    (prefixes : map (λ (k : ModuleCopy). k.prefix) copies ≡ map prefix_text (paths_below [] (made_of m is))) where
  abbrev g : LeafCircuit
  g = flattened (made_of m is)

  abbrev ks : List Copy
  ks = copies_of x (made_of m is)

  same : SameClockLeaves (flattened (made_of m is)) t
  same = clock_leaves c (made_of m is) t a

  -- the copy of a number, beside the module of that number
  record AtCopy (i : ℕ) (k : ModuleCopy) : Type 0 where
    stands : CopyStands a.scenes (flattened (made_of m is)).leaves (all_modules t) (copies_of x (made_of m is)) (copy_seen k)
    is_holder : slice_get (all_modules t) i ≡ Some (record { at = stands.path; scene = stands.scene })
    apart : k.first + (leafed_module stands.scene).port_leaves ≤ k.own
    prefix : k.prefix ≡ prefix_text stands.path

  abbrev OfModule : Copy → PlacedModule → Type 0
  OfModule = IsCopyOf a.scenes (flattened (made_of m is)).leaves

  as_many : length ks ≡ length (all_modules t)
  as_many = step_long OfModule ks (all_modules t) (copies_in_step c m is t a x at)

  copy_there : (i : ℕ) (k : ModuleCopy) → slice_get copies i ≡ Some k → slice_get (copies_of x (made_of m is)) i ≡ Some (copy_seen k)
  copy_there i k e = ap (λ ls. slice_get ls i) (sym seen) ∙ slice_get-map copy_seen copies i ∙ ap (option_map copy_seen) e

  prefix_there : (i : ℕ) (k : ModuleCopy) (h : PlacedModule) → slice_get copies i ≡ Some k → slice_get (all_modules t) i ≡ Some h
      → k.prefix ≡ prefix_text h.at
  prefix_there i k h e f =
      let hs = all_modules t in
      let paths = design_paths c a.names a.scenes a.are (made_of m is) a.main t a.among a.design.is a.tree [] in
      let own : slice_get (map (λ (q : ModuleCopy). q.prefix) copies) i ≡ Some k.prefix =
      slice_get-map (λ (q : ModuleCopy). q.prefix) copies i ∙ ap (option_map (λ (q : ModuleCopy). q.prefix)) e in
      let other : slice_get (map prefix_text (map (λ (q : PlacedModule). q.at) hs)) i ≡ Some (prefix_text h.at) =
      slice_get-map prefix_text (map (λ (q : PlacedModule). q.at) hs) i
      ∙ ap (option_map prefix_text) (slice_get-map (λ (q : PlacedModule). q.at) hs i ∙ ap (option_map (λ (q : PlacedModule). q.at)) f) in
      same_Some k.prefix (prefix_text h.at)
      (sym own ∙ ap (λ ps. slice_get ps i) (prefixes ∙ ap (map prefix_text) paths) ∙ other)

  at_copy : (i : ℕ) (k : ModuleCopy) → slice_get copies i ≡ Some k → AtCopy i k
  at_copy i k e =
      let get = copy_there i k e in
      let h = there (all_modules t) i (omega (arith, slice_get_within ks i (copy_seen k) get, as_many)) in
      let r = step_at OfModule ks (all_modules t) (copies_in_step c m is t a x at) i h.0 h.1 in
      let own : OfModule (copy_seen k) h.0 = subst (λ q. OfModule q h.0) (same_Some r.0 (copy_seen k) (sym r.1 ∙ get)) r.2 in
      let s = each_copy c m is t a x at (copy_seen k) (get_in ks i (copy_seen k) get) in
      let scene : s.scene ≡ h.0.scene = same_Some s.scene h.0.scene (sym s.is ∙ own.is) in
      record {
        stands = record {
          scene = h.0.scene;
          is = own.is;
          path = h.0.at;
          whens = own.whens;
          among = get_in (all_modules t) i h.0 h.1;
          stands = own.stands;
          ports = own.ports;
          placed = own.placed;
          children =
              subst (λ (u : Scene). (q : Held) → In (all_held_in 0 (leafed_module u).body) q → HasChild (numbering (leafed_module u) k.first k.own) ks q) scene
              s.children;
        };
        is_holder = h.1;
        apart = own.apart;
        prefix = prefix_there i k h.0 e h.1;
      }

  -- the copy of a number gives a leaf of the circuit its value
  record IsGiver (i y : ℕ) : Type 0 where
    copy : ModuleCopy
    is_copy : slice_get copies i ≡ Some copy
    beside : AtCopy i copy
    leaf : ℕ
    within : leaf < length (leafed_module beside.stands.scene).leaves
    gives : role_at (leafed_module beside.stands.scene) leaf ≡ role.source → ⊥
    number_is : number (numbering (leafed_module beside.stands.scene) copy.first copy.own) leaf ≡ y

  abbrev own_circuit : (i y : ℕ) → IsGiver i y → LeafCircuit
  own_circuit i y r = module_circuit (leafed_module r.beside.stands.scene)

  given_below : (i y : ℕ) → IsGiver i y → y < length (flattened (made_of m is)).leaves
  given_below i y r = subst (λ v. v < length g.leaves) r.number_is (r.beside.stands.stands.within r.leaf r.within)

  -- what the circuit shows its module shows
  shown_at : (i y : ℕ) (r : IsGiver i y) (one other : Place) → ShowsPlaces (flattened (made_of m is)) y one other
      → IsShownAt a.scenes copies i r.leaf (place_of_leaf (own_circuit i y r) r.leaf) (fault_behind r.copy.prefix (own_circuit i y r) r.leaf one other)
  shown_at i y r one other h = record {
    copy = r.copy;
    is = r.is_copy;
    scene = r.beside.stands.scene;
    is_scene = r.beside.stands.is;
    within = r.within;
    place = refl;
    one = one;
    other = other;
    shows =
        to_module c m is t a alike ks (copy_seen r.copy) r.beside.stands r.leaf r.within r.gives one other
        (subst (λ v. ShowsPlaces g v one other) (sym r.number_is) h);
    told = refl;
  }

  -- and the other way round
  record IsSeen (i z : ℕ) (p : Place) (f : Fault) : Type 0 where
    number : ℕ
    giver : IsGiver i number
    leaf_is : giver.leaf ≡ z
    shows : ShowsFault (flattened (made_of m is)) number f
    place : p ≡ place_of_leaf (flattened (made_of m is)) number

  from_shown : (i z : ℕ) (p : Place) (f : Fault) → IsShownAt a.scenes copies i z p f → IsSeen i z p f
  from_shown i z p f h =
      let b = at_copy i h.copy h.is in
      let s = b.stands in
      let scene : h.scene ≡ s.scene = same_Some h.scene s.scene (sym h.is_scene ∙ s.is) in
      let within : z < length (leafed_module s.scene).leaves = subst (λ (u : Scene). z < length (leafed_module u).leaves) scene h.within in
      let own = module_circuit (leafed_module s.scene) in
      let shows : ShowsPlaces (module_circuit (leafed_module s.scene)) z h.one h.other =
      subst (λ (u : Scene). ShowsPlaces (module_circuit (leafed_module u)) z h.one h.other) scene h.shows in
      let gives = shown_given own z h.one h.other shows in
      let k = copy_seen h.copy in
      let y = number (numbering (leafed_module s.scene) h.copy.first h.copy.own) z in
      let place : p ≡ place_of_leaf g y =
      h.place ∙ ap (λ (u : Scene). place_of_leaf (module_circuit (leafed_module u)) z) scene ∙ sym (place_is c m is t a alike ks k s z within gives) in
      let told : f ≡ fault_behind [] g y h.one h.other =
      h.told ∙ ap (λ (u : Scene). fault_behind h.copy.prefix (module_circuit (leafed_module u)) z h.one h.other) scene
      ∙ ap (λ ts. fault_behind ts own z h.one h.other) b.prefix ∙ fault_is c m is t a alike ks k s z within gives h.one h.other shows in
      record {
        number = y;
        giver = record { copy = h.copy; is_copy = h.is; beside = b; leaf = z; within = within; gives = gives; number_is = refl };
        leaf_is = refl;
        shows =
            subst (ShowsFault g y) (sym told)
            (shows_of g y h.one h.other (to_circuit c m is t a alike ks k s z within gives h.one h.other shows));
        place = place;
      }

  -- what is no sink is given in the module that declares it
  at_same : (k : Copy) (s : CopyStands a.scenes (flattened (made_of m is)).leaves (all_modules t) (copies_of x (made_of m is)) k) (z : ℕ)
      (lt : z < length (leafed_module s.scene).leaves) → (role_at (leafed_module s.scene) z ≡ role.source → ⊥) → (y : ℕ)
      → number (numbering (leafed_module s.scene) k.first k.own) z ≡ y → (p : PlacedLeaf) → slice_get (all_leaves t) y ≡ Some p
      → (role_of (flattened (made_of m is)) y ≡ role.sink → ⊥) → s.path ≡ p.at
  at_same k s z lt gives y e p get none =
      let l = same.each y p get in
      let le = inner_is c m is t a alike ks k s z lt gives (λ sink. none (ap (role_of g) (sym e) ∙ sink)) in
      let long = instances_there c m is t a alike ks k s z lt gives le in
      let path : s.path ++ path_in s.scene z ≡ p.at ++ p.leaf.path = sym (s.stands.path z lt) ∙ ap (circuit_path g) e ∙ sym l.path in
      same_begin s.path p.at (path_in s.scene z) p.leaf.path path
      (sym long ∙ ap (λ v. (leaf_at g.leaves v).instances) e ∙ l.instances)

  -- some copy gives a leaf that shows a fault
  any_giver : (y : ℕ) → y < length (flattened (made_of m is)).leaves → (role_of (flattened (made_of m is)) y ≡ role.source → ⊥) → (i : ℕ) × IsGiver i y
  any_giver y lt no_source =
      ⊎_elim
      (λ (o : IsMainInput (leafed_module a.main) y).
      let low : y < m.port_leaves = subst (λ (w : LeafModule). y < w.port_leaves) (sym a.design.is.0) o.port in
      absurd (no_source
      (ap (λ (l : LeafDeclared). l.role) (main_port m is a.design.main.0 y low) ∙ ap (λ (w : LeafModule). role_at w y) a.design.is.0 ∙ o.is_source)))
      (λ (o : (k : Copy) × In (copies_of x (made_of m is)) k × IsGivenBy a.scenes k y).
      let i = number_of ks o.0 o.1 in
      let many : length copies ≡ length ks = sym (length-map copies copy_seen) ∙ ap length seen in
      let k = there copies i.0 (omega (arith, slice_get_within ks i.0 o.0 i.1, many)) in
      let b = at_copy i.0 k.0 k.1 in
      let s = b.stands in
      let one : o.0 ≡ copy_seen k.0 = same_Some o.0 (copy_seen k.0) (sym i.1 ∙ copy_there i.0 k.0 k.1) in
      let by : IsGivenBy a.scenes (copy_seen k.0) y = subst (λ q. IsGivenBy a.scenes q y) one o.2 in
      let scene : by.scene ≡ s.scene = same_Some by.scene s.scene (sym by.is ∙ s.is) in (
        i.0,
        record {
          copy = k.0;
          is_copy = k.1;
          beside = b;
          leaf = by.leaf;
          within = subst (λ (u : Scene). by.leaf < length (leafed_module u).leaves) scene by.within;
          gives = subst (λ (u : Scene). role_at (leafed_module u) by.leaf ≡ role.source → ⊥) scene by.gives;
          number_is = subst (λ (u : Scene). number (numbering (leafed_module u) k.0.first k.0.own) by.leaf ≡ y) scene by.number_is;
        },
      ))
      (all_given c (made_of m is) t a x at y lt)

  no_source : (y : ℕ) (f : Fault) → ShowsFault (flattened (made_of m is)) y f → role_of (flattened (made_of m is)) y ≡ role.source → ⊥
  no_source y f shows = let p = places_of g y f shows in shown_given g y p.one p.other p.shows

  -- the module of a copy gives its leaves as ranks have it
  given_in : (i y : ℕ) (r : IsGiver i y) (p : PlacedLeaf) → slice_get (all_leaves t) y ≡ Some p
      → IsGivenIn (is_sink_role p.leaf.role) p (record { at = r.beside.stands.path; scene = r.beside.stands.scene })
  given_in i y r p get = by p.leaf.role refl l.role
    where
      l : IsTreeLeaf (flattened (made_of m is)) y p
      l = same.each y p get

      moved : role_of g y ≡ moved_role (numbering (leafed_module r.beside.stands.scene) r.copy.first r.copy.own) r.copy.array (role_at (leafed_module r.beside.stands.scene) r.leaf)
      moved = ap (role_of g) (sym r.number_is) ∙ role_is c m is t a alike ks (copy_seen r.copy) r.beside.stands r.leaf r.within r.gives

      not_sink : (u : SourceRole) → p.leaf.role ≡ u → (u ≡ sources.sink → ⊥) → r.beside.stands.path ≡ p.at
      not_sink u e none =
          at_same (copy_seen r.copy) r.beside.stands r.leaf r.within r.gives y r.number_is p get
          (λ sink. none (sym e ∙ sink_by_path g p.at (role_of g y) p.leaf.role l.role sink))

      by : (u : SourceRole) → p.leaf.role ≡ u → SameRoleBelow g p.at (role_of g y) u
          → IsGivenIn (is_sink_role u) p (record { at = r.beside.stands.path; scene = r.beside.stands.scene })
      by sources.source e h =
          absurd (moved_no_source (numbering (leafed_module r.beside.stands.scene) r.copy.first r.copy.own) r.copy.array (role_at (leafed_module r.beside.stands.scene) r.leaf)
          (sym moved ∙ source_there g p.at (role_of g y) h))
      by sources.sink e h =
          let fine = module_fine c m is t a (record { at = r.beside.stands.path; scene = r.beside.stands.scene }) r.beside.stands.among in
          let sink = moved_sink (numbering (leafed_module r.beside.stands.scene) r.copy.first r.copy.own) r.copy.array (role_at (leafed_module r.beside.stands.scene) r.leaf) r.gives
          (sym moved ∙ sink_by_number g p.at (role_of g y) sources.sink h refl) in
          let may : source_may_drive r.beside.stands.scene (path_in r.beside.stands.scene r.leaf) ≡ true =
          ap (source_may_drive r.beside.stands.scene) (path_of_leaf_is r.beside.stands.scene fine r.leaf) ∙ source_may_drive_is r.beside.stands.scene fine r.leaf r.within ∙ ap role.may_drive sink in (
            path_in r.beside.stands.scene r.leaf,
            sym (r.beside.stands.stands.path r.leaf r.within) ∙ ap (circuit_path g) r.number_is ∙ sym l.path,
            may,
          )
      by (sources.computed scope k q) e h = not_sink (sources.computed scope k q) e (λ never. absurd (cc))
      by (sources.register scope k reset q) e h = not_sink (sources.register scope k reset q) e (λ never. absurd (cc))
      by (sources.reading q) e h = not_sink (sources.reading q) e (λ never. absurd (cc))
      by (sources.pipe q k kept) e h = not_sink (sources.pipe q k kept) e (λ never. absurd (cc))

  -- the module of a rank gives its leaf
  giver_of_rank : (p : PlacedLeaf) (r : Rank) → HasRank t p r → (f : Fault) → ShowsFault (flattened (made_of m is)) r.leaf f → IsGiver r.holder r.leaf
  giver_of_rank p r has f shows = by p.leaf.role refl
    where
      lt : r.leaf < length (flattened (made_of m is)).leaves
      lt = omega (arith, slice_get_within (all_leaves t) r.leaf p has.is_leaf, same.many)

      k : (q : ModuleCopy) × (slice_get copies r.holder ≡ Some q)
      k =
          let many : length copies ≡ length ks = sym (length-map copies copy_seen) ∙ ap length seen in
          there copies r.holder (omega (arith, slice_get_within (all_modules t) r.holder has.giver has.is_giver, many, as_many))

      b : AtCopy r.holder k.0
      b = at_copy r.holder k.0 k.1

      holder : has.giver ≡ record { at = b.stands.path; scene = b.stands.scene }
      holder = same_Some has.giver (record { at = b.stands.path; scene = b.stands.scene }) (sym has.is_giver ∙ b.is_holder)

      l : IsTreeLeaf (flattened (made_of m is)) r.leaf p
      l = same.each r.leaf p has.is_leaf

      numbered_so : (z : ℕ) → z < length (leafed_module b.stands.scene).leaves → b.stands.path ++ path_in b.stands.scene z ≡ circuit_path g r.leaf
          → number (numbering (leafed_module b.stands.scene) k.0.first k.0.own) z ≡ r.leaf
      numbered_so z within e =
          a.design.sound.once (number (numbering (leafed_module b.stands.scene) k.0.first k.0.own) z) r.leaf (b.stands.stands.within z within) lt
          (b.stands.stands.path z within ∙ e)

      declared : (u : SourceRole) → p.leaf.role ≡ u → (u ≡ sources.sink → ⊥) → b.stands.path ≡ p.at → IsGiver r.holder r.leaf
      declared u e none same_at =
          let o = any_giver r.leaf lt (no_source r.leaf f shows) in
          let other = o.1.beside.stands in
          let there_at : other.path ≡ p.at =
          at_same (copy_seen o.1.copy) other o.1.leaf o.1.within o.1.gives r.leaf o.1.number_is p has.is_leaf
          (λ sink. none (sym e ∙ sink_by_path g p.at (role_of g r.leaf) p.leaf.role l.role sink)) in
          let one : record { at = other.path; scene = other.scene } ≡ record { at = b.stands.path; scene = b.stands.scene } =
          modules_once c a.names a.types a.scenes a.are t a.main a.among a.tree [] (record { at = other.path; scene = other.scene })
          (record { at = b.stands.path; scene = b.stands.scene }) other.among b.stands.among (there_at ∙ sym same_at) in
          let scene : other.scene ≡ b.stands.scene = ap (λ (h : PlacedModule). h.scene) one in
          let path : other.path ++ path_in other.scene o.1.leaf ≡ circuit_path g r.leaf =
          sym (other.stands.path o.1.leaf o.1.within) ∙ ap (circuit_path g) o.1.number_is in
          let within : o.1.leaf < length (leafed_module b.stands.scene).leaves =
          subst (λ (v : Scene). o.1.leaf < length (leafed_module v).leaves) scene o.1.within in
          record {
            copy = k.0;
            is_copy = k.1;
            beside = b;
            leaf = o.1.leaf;
            within = within;
            gives = subst (λ (v : Scene). role_at (leafed_module v) o.1.leaf ≡ role.source → ⊥) scene o.1.gives;
            number_is =
                numbered_so o.1.leaf within (ap (λ (h : PlacedModule). h.at ++ path_in h.scene o.1.leaf) (sym one) ∙ path);
          }

      given : (u : SourceRole) → p.leaf.role ≡ u → IsGivenIn (is_sink_role u) p (record { at = b.stands.path; scene = b.stands.scene })
      given u e = subst (IsGivenIn (is_sink_role u) p) holder (subst (λ v. IsGivenIn (is_sink_role v) p has.giver) e has.given)

      by : (u : SourceRole) → p.leaf.role ≡ u → IsGiver r.holder r.leaf
      by sources.source e =
          absurd (no_source r.leaf f shows (source_there g p.at (role_of g r.leaf) (subst (SameRoleBelow g p.at (role_of g r.leaf)) e l.role)))
      by sources.sink e =
          let h = given sources.sink e in
          let fine = module_fine c m is t a (record { at = b.stands.path; scene = b.stands.scene }) b.stands.among in
          let d = driven_leaf b.stands.scene fine h.0 h.2 in
          record {
            copy = k.0;
            is_copy = k.1;
            beside = b;
            leaf = d.leaf;
            within = d.within;
            gives = λ none. let never : false ≡ true = sym (ap role.may_drive none) ∙ d.may in cc;
            number_is = numbered_so d.leaf d.within (ap (λ (q : LeafPath). b.stands.path ++ q) d.path ∙ h.1 ∙ l.path);
          }
      by (sources.computed scope q v) e = declared (sources.computed scope q v) e (λ never. absurd (cc)) (given (sources.computed scope q v) e)
      by (sources.register scope q reset v) e =
          declared (sources.register scope q reset v) e (λ never. absurd (cc)) (given (sources.register scope q reset v) e)
      by (sources.reading q) e = declared (sources.reading q) e (λ never. absurd (cc)) (given (sources.reading q) e)
      by (sources.pipe q v kept) e = declared (sources.pipe q v kept) e (λ never. absurd (cc)) (given (sources.pipe q v kept) e)

  -- leaves of one copy have their order
  in_order : (i j y v : ℕ) (r : IsGiver i y) (q : IsGiver j v) → i ≡ j → y < v → r.leaf < q.leaf
  in_order i j y v r q e lt =
      let copy : r.copy ≡ q.copy = same_Some r.copy q.copy (sym r.is_copy ∙ ap (slice_get copies) e ∙ q.is_copy) in
      let scene : r.beside.stands.scene ≡ q.beside.stands.scene =
      same_Some r.beside.stands.scene q.beside.stands.scene
      (sym r.beside.stands.is ∙ ap (λ (k : ModuleCopy). slice_get a.scenes k.module_number) copy ∙ q.beside.stands.is) in
      let numbers : numbering (leafed_module r.beside.stands.scene) r.copy.first r.copy.own
      ≡ numbering (leafed_module q.beside.stands.scene) q.copy.first q.copy.own =
      ap₂ (λ (u : Scene) (k : ModuleCopy). numbering (leafed_module u) k.first k.own) scene copy in
      let there_is : number (numbering (leafed_module q.beside.stands.scene) q.copy.first q.copy.own) r.leaf ≡ y =
      ap (λ (n : Numbering). number n r.leaf) (sym numbers) ∙ r.number_is in
      number_less (numbering (leafed_module q.beside.stands.scene) q.copy.first q.copy.own) q.beside.apart r.leaf q.leaf
      (omega (arith, there_is, q.number_is, lt))

  shows_there : (y : ℕ) → y < length (flattened (made_of m is)).leaves → (p : PlacedLeaf) → slice_get (all_leaves t) y ≡ Some p → (f : Fault)
      → tree.ShowsAt t p f → ShowsFault (flattened (made_of m is)) y f
  shows_there y lt p get f h =
      ⊎_elim (λ (k : tree.ShowsPickedClock t p f). inl (picked_by_number g t same y lt p (same.each y p get) f k))
      (λ (k : tree.ShowsTwoLive t p f). inr (two_by_number g t same y lt p (same.each y p get) f k)) h

  none_told : ((i z : ℕ) (p : Place) (f : Fault) → IsShownAt a.scenes copies i z p f → ⊥) → (f : Fault) → ShowsClockFault t f → ⊥
  none_told none f h =
      let y = number_of (all_leaves t) h.leaf h.among in
      let lt : y.0 < length g.leaves = omega (arith, slice_get_within (all_leaves t) y.0 h.leaf y.1, same.many) in
      let shows = shows_there y.0 lt h.leaf y.1 f h.shows in
      let p = places_of g y.0 f shows in
      let o = any_giver y.0 lt (no_source y.0 f shows) in
      none o.0 o.1.leaf _ _ (shown_at o.0 y.0 o.1 p.one p.other p.shows)

  some_told : (f : Fault) → IsFirstShown a.scenes copies f → TellsClockFault t f
  some_told f h =
      let o = from_shown h.copy h.leaf h.place f h.shown in
      let y = o.number in
      let lt = given_below h.copy y o.giver in
      let p = there (all_leaves t) y (omega (arith, lt, same.many)) in
      let l = same.each y p.0 p.1 in
      record {
        leaf = p.0;
        rank = rank (place_of_leaf g y) h.copy y;
        has_rank = record {
          stands = subst (λ path. StandsAt t path (place_of_leaf g y)) (sym l.path) (same.stands y lt);
          giver = record { at = o.giver.beside.stands.path; scene = o.giver.beside.stands.scene };
          is_giver = o.giver.beside.is_holder;
          given = given_in h.copy y o.giver p.0 p.1;
          is_leaf = p.1;
        };
        shows =
            ⊎_elim (λ (k : numbered.ShowsPickedClock g y f). inl (picked_by_path g t same y lt p.0 l f k))
            (λ (k : numbered.ShowsTwoLive g y f). inr (two_by_path g t same y lt p.0 l f k)) o.shows;
        first = λ other its_rank its_fault has shows_other.
            let v = its_rank.leaf in
            let less : v < length g.leaves = omega (arith, slice_get_within (all_leaves t) v other has.is_leaf, same.many) in
            let shown = shows_there v less other has.is_leaf its_fault shows_other in
            let q = places_of g v its_fault shown in
            let r = giver_of_rank other its_rank has its_fault shown in
            let before = h.first its_rank.holder r.leaf _ _ (shown_at its_rank.holder v r q.one q.other q.shows) in
            let s = r.beside.stands in
            let place : place_of_leaf (module_circuit (leafed_module s.scene)) r.leaf ≡ its_rank.place =
            sym (place_is c m is t a alike ks (copy_seen r.copy) s r.leaf r.within r.gives) ∙ ap (place_of_leaf g) r.number_is
            ∙ sym (same.one_place v its_rank.place less
            (subst (λ path. StandsAt t path its_rank.place) (same.each v other has.is_leaf).path has.stands)) in
            let moved : comes_before (rank its_rank.place its_rank.holder r.leaf) (rank (place_of_leaf g y) h.copy h.leaf) ≡ false =
            ap₂ (λ one two. comes_before (rank one its_rank.holder r.leaf) (rank two h.copy h.leaf)) (sym place) (sym o.place) ∙ before in
            later its_rank.place (place_of_leaf g y) its_rank.holder h.copy r.leaf h.leaf v y
            (λ e less_so. let one = in_order its_rank.holder h.copy v y r o.giver e less_so in omega (arith, one, o.leaf_is)) moved;
      }

pub first_told : FirstIsTold
first_told c (made_of m is) t a x copies None at widths seen prefixes h =
    none_told c m is t a x at (one_widths c a.scenes widths) copies seen prefixes h
first_told c (made_of m is) t a x copies (Some f) at widths seen prefixes h =
    some_told c m is t a x at (one_widths c a.scenes widths) copies seen prefixes f h
