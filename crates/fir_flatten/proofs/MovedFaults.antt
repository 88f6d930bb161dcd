-- What the module of a copy shows of a leaf that it gives a value is what the circuit shows of that leaf.
use Rattle.std.proofs.Common.{◌≡◌, ◌⊎◌, ℕ, ◌+◌, ◌<◌, ◌≤◌, List, [], ◌∷◌, ◌++◌, flat_map, map, take, length, Bool, true, false, nat_lt, refl, sym, ap, ap₂, ◌∙◌, subst, inl, inr, arith}
use Rattle.std.proofs.lemmas.Bool.{ltb-false, ltb-true}
use Rattle.std.proofs.lemmas.Option.{get_or_from_slice_get}
use Rattle.fir_base.specs.Lists.{In}
use Rattle.fir_base.proofs.Elements.{there}
use Rattle.fir_ast.specs.declared.place.Place.{Place}
use Rattle.fir_ast.specs.Circuits.{CircuitTree}
use Rattle.fir_ast.specs.Faults.{Fault}
use Rattle.fir_meaning.specs.LeafPaths.{LeafPath, named, path_text}
use Rattle.fir_meaning.specs.LeafTypes.{LeafType, a_clock, number}
use Rattle.fir_meaning.specs.SourceClocks.{clock_fault}
use Rattle.fir_meaning.specs.SourceDependence.{all_modules}
use Rattle.fir_meaning.specs.SourceDesigns.{SourceDesign}
use Rattle.fir_meaning.specs.SourceRoles.{source_leaves}
use Rattle.fir_meaning.specs.working.Designs.{Items, made_of}
use Rattle.fir_meaning.specs.working.Flattened.{flattened}
use Rattle.fir_meaning.specs.working.LeafCircuits.{LeafCircuit, role_of}
use Rattle.fir_meaning.specs.working.LeafModules as role
use Rattle.fir_meaning.specs.working.LeafModules.{LeafDeclared, LeafModule, Role, leaf_at, no_leaf, role_at}
use Rattle.fir_meaning.specs.working.LeafNames.{component_of_leaf, place_of_leaf}
use Rattle.fir_meaning.specs.working.LeafedModules.{leafed_module, module_leaves}
use Rattle.fir_meaning.specs.working.Numberings.{Numbering, moved_role, numbering}
use Rattle.fir_meaning.specs.working.Numberings as over
use Rattle.fir_leaf.specs.working.ClockFaults.{IsFirstPlace, ShowsPickedClock, ShowsTwoLive, clock_path, clock_places, live_places}
use Rattle.fir_leaf.specs.working.ClockRoots.{lives_of}
use Rattle.fir_leaf.specs.working.ModuleCircuits.{module_circuit}
use Rattle.fir_leaf.specs.working.SoundDesigns.{circuit_path}
use Rattle.fir_leaf.proofs.MovedTerms.{number_port}
use Rattle.fir_design.specs.working.MeaningLaws.{AreDesigns}
use Rattle.fir_design.proofs.FineScenes.{IsFineScene, leaf_is}
use Rattle.fir_design.proofs.ListsInStep.{step_at, step_long}
use Rattle.fir_source_faults.specs.working.ReadsByPath.{path_in}
use Rattle.fir_source_faults.proofs.ModuleReads.{scene_reads}
use Rattle.fir_design_faults.proofs.ClockFaults.{first_two, lives_places}
use Rattle.fir_design_faults.proofs.ClockGifts.{HaveGifts, module_gifts}
use Rattle.fir_design_faults.proofs.ClockRoles.{moved_places}
use Rattle.fir_design_faults.proofs.FlatLives.{moved_live}
use Rattle.fir_design_faults.proofs.WholeDesigns.{module_fine}
use Rattle.fir_copies.specs.working.Copies.{Copy}
use Rattle.fir_copies.proofs.CopyDrivers.{copy_lives}
use Rattle.fir_copies.proofs.CopyLeaves.{copy_holds, copy_role}
use Rattle.fir_copies.proofs.CopyPlaces.{CopyStands, HaveOneWidths}
use Rattle.fir_copies.proofs.PortRoles.{port_role_is}
use Rattle.fir_elaborate.specs.working.CopyPaths.{prefix_text}
use Rattle.fir_flatten.specs.working.ClockTold.{ShowsPlaces, fault_behind}
use Rattle.fir_flatten.proofs.PrefixedPaths.{prefixed, take_one}

-- E25 at a leaf
abbrev pub ShowsFault : LeafCircuit → ℕ → Fault → Type 0
ShowsFault c x f = ShowsPickedClock c x f ⊎ ShowsTwoLive c x f

-- with its places
pub record HasPlaces (c : LeafCircuit) (x : ℕ) (f : Fault) : Type 0 where
  pub one : Place
  pub other : Place
  pub shows : ShowsPlaces c x one other
  pub is : f ≡ fault_behind [] c x one other

pub places_of : (c : LeafCircuit) (x : ℕ) (f : Fault) → ShowsFault c x f → HasPlaces c x f
places_of c x f (inl h) = record { one = h.index; other = h.index; shows = inl (record { first = h.first; twice = refl }); is = h.is }
places_of c x f (inr h) = record {
  one = h.first.place;
  other = h.second.place;
  shows = inr (record {
    is_clock = h.is_clock;
    is_sink = h.is_sink;
    none_picks = h.none_picks;
    first = h.first;
    second = h.second;
    rest = h.rest;
    lives = h.lives;
    one_is = refl;
    other_is = refl;
  });
  is = h.is ∙ ap (λ t. clock_fault (place_of_leaf c x) (clock_path c x t) h.first.place h.second.place) (sym h.is_clock);
}

pub shows_of : (c : LeafCircuit) (x : ℕ) (one other : Place) → ShowsPlaces c x one other → ShowsFault c x (fault_behind [] c x one other)
shows_of c x one other (inl h) =
    inl (record {
      index = one;
      first = h.first;
      is = ap (clock_fault (place_of_leaf c x) (clock_path c x (leaf_at c.leaves x).holds) one) h.twice;
    })
shows_of c x one other (inr h) =
    inr (record {
      is_clock = h.is_clock;
      is_sink = h.is_sink;
      none_picks = h.none_picks;
      first = h.first;
      second = h.second;
      rest = h.rest;
      lives = h.lives;
      is =
          ap (λ t. clock_fault (place_of_leaf c x) (clock_path c x t) one other) h.is_clock
          ∙ ap₂ (clock_fault (place_of_leaf c x) (clock_path c x a_clock)) h.one_is h.other_is;
    })

-- a source shows none
source_places : (c : LeafCircuit) (x : ℕ) (h : LeafType) → clock_places c x h role.source ≡ []
source_places c x a_clock = refl
source_places c x (number t) = refl

pub shown_given : (c : LeafCircuit) (x : ℕ) (one other : Place) → ShowsPlaces c x one other → role_of c x ≡ role.source → ⊥
shown_given c x one other (inl h) e =
    let none : clock_places c x (leaf_at c.leaves x).holds (role_of c x) ≡ [] =
    ap (clock_places c x (leaf_at c.leaves x).holds) e ∙ source_places c x (leaf_at c.leaves x).holds in
    let i : In [] one = subst (λ ps. In ps one) none h.first.among in
    absurd i
shown_given c x one other (inr h) e =
    let never : role.source ≡ role.sink = sym e ∙ h.is_sink in
    absurd (cc)

-- what holds a number shows one where it is a register
shown_register : (c : LeafCircuit) (x : ℕ) (t : _) (one other : Place) → ShowsPlaces c x one other → (leaf_at c.leaves x).holds ≡ number t
    → (role_of c x ≡ role.sink → ⊥)
shown_register c x t one other (inl h) e sink =
    let i : In [] one = subst (λ ps. In ps one) (ap₂ (clock_places c x) e sink) h.first.among in
    absurd i
shown_register c x t one other (inr h) e sink =
    let never : number t ≡ a_clock = sym e ∙ h.is_clock in
    absurd (cc)

-- a role that is moved is none of a source, and a sink where it was, or was a source
pub moved_no_source : (n : Numbering) (k : ℕ) (r : Role) → moved_role n k r ≡ role.source → ⊥
moved_no_source n k role.source e = absurd (cc)
moved_no_source n k role.sink e = absurd (cc)
moved_no_source n k (role.computed t) e = absurd (cc)
moved_no_source n k (role.register c r) e = absurd (cc)
moved_no_source n k (role.reading r) e = absurd (cc)
moved_no_source n k (role.pipe r c u) e = absurd (cc)

pub moved_sink : (n : Numbering) (k : ℕ) (r : Role) → (r ≡ role.source → ⊥) → moved_role n k r ≡ role.sink → r ≡ role.sink
moved_sink n k role.source none e = absurd (none refl)
moved_sink n k role.sink none e = refl
moved_sink n k (role.computed t) none e = absurd (cc)
moved_sink n k (role.register c r) none e = absurd (cc)
moved_sink n k (role.reading r) none e = absurd (cc)
moved_sink n k (role.pipe r c u) none e = absurd (cc)

module _ (c : CircuitTree) (m : LeafModule) (is : Items) (t : SourceDesign) (a : AreDesigns c (made_of m is) t) (alike : HaveOneWidths a.scenes)
    (ks : List Copy) (k : Copy) (s : CopyStands a.scenes (flattened (made_of m is)).leaves (all_modules t) ks k) (z : ℕ)
    (lt : z < length (leafed_module s.scene).leaves) where
  abbrev g : LeafCircuit
  g = flattened (made_of m is)

  abbrev w : LeafModule
  w = leafed_module s.scene

  abbrev own : LeafCircuit
  own = module_circuit (leafed_module s.scene)

  abbrev n : Numbering
  n = numbering (leafed_module s.scene) k.first k.own

  -- its number in the circuit
  abbrev pub there_is : ℕ
  there_is = over.number (numbering (leafed_module s.scene) k.first k.own) z

  abbrev y : ℕ
  y = over.number (numbering (leafed_module s.scene) k.first k.own) z

  fine : IsFineScene s.scene
  fine = module_fine c m is t a (record { at = s.path; scene = s.scene }) s.among

  holds_is : (leaf_at g.leaves y).holds ≡ (leaf_at w.leaves z).holds
  holds_is = copy_holds a.scenes g.leaves (all_modules t) ks k s alike z lt

  -- what the module gives, as it stands in the circuit
  module _ (gives : role_at (leafed_module s.scene) z ≡ role.source → ⊥) where
    pub role_is : role_of (flattened (made_of m is)) (over.number (numbering (leafed_module s.scene) k.first k.own) z)
        ≡ moved_role (numbering (leafed_module s.scene) k.first k.own) k.array (role_at (leafed_module s.scene) z)
    role_is = copy_role a.scenes g.leaves (all_modules t) ks k s z lt gives

    pub place_is : place_of_leaf (flattened (made_of m is)) (over.number (numbering (leafed_module s.scene) k.first k.own) z)
        ≡ place_of_leaf (module_circuit (leafed_module s.scene)) z
    place_is = by (nat_lt z w.port_leaves) refl
      where
        of_port : z < w.port_leaves → (role_at w z ≡ role.source) ⊎ (role_at w z ≡ role.sink) → place_of_leaf g y ≡ place_of_leaf own z
        of_port low (inl e) = absurd (gives e)
        of_port low (inr e) = ap (place_of_leaf g) (number_port n z low) ∙ s.ports.places z low e

        by : (b : Bool) → nat_lt z w.port_leaves ≡ b → place_of_leaf g y ≡ place_of_leaf own z
        by true e = let low = ltb-true z w.port_leaves e in of_port low (port_role_is s.scene z low)
        by false e = ap (λ (l : LeafDeclared). l.place) (s.placed z (ltb-false z w.port_leaves e) lt)

    -- what is no sink there is no port
    pub inner_is : (role_of (flattened (made_of m is)) (over.number (numbering (leafed_module s.scene) k.first k.own) z) ≡ role.sink → ⊥)
        → (leafed_module s.scene).port_leaves ≤ z
    inner_is no_sink = by (nat_lt z w.port_leaves) refl
      where
        of_port : (role_at w z ≡ role.source) ⊎ (role_at w z ≡ role.sink) → w.port_leaves ≤ z
        of_port (inl e) = absurd (gives e)
        of_port (inr e) = absurd (no_sink (role_is ∙ ap (moved_role n k.array) e))

        by : (b : Bool) → nat_lt z w.port_leaves ≡ b → w.port_leaves ≤ z
        by true e = of_port (port_role_is s.scene z (ltb-true z w.port_leaves e))
        by false e = ltb-false z w.port_leaves e

    lives_same : role_at w z ≡ role.sink → (p : Numbering) × (lives_of g y ≡ map (moved_live p) (lives_of own z))
    lives_same e = copy_lives c m is t a ks k s z lt (ap role.may_drive e)

    sink_places : role_at w z ≡ role.sink → flat_map live_places (lives_of g y) ≡ flat_map live_places (lives_of own z)
    sink_places e =
        let l = lives_same e in
        ap (flat_map live_places) l.1 ∙ lives_places l.0 (lives_of own z)

    places_by : (h : LeafType) (r : Role) → role_at w z ≡ r → clock_places g y h (moved_role n k.array r) ≡ clock_places own z h r
    places_by h role.source e = absurd (gives e)
    places_by a_clock role.sink e = sink_places e
    places_by (number u) role.sink e = refl
    places_by a_clock (role.computed u) e = moved_places n u
    places_by (number v) (role.computed u) e = refl
    places_by a_clock (role.register u r) e = moved_places n u
    places_by (number v) (role.register u r) e = moved_places n u
    places_by a_clock (role.reading r) e = refl
    places_by (number v) (role.reading r) e = refl
    places_by a_clock (role.pipe r x u) e = refl
    places_by (number v) (role.pipe r x u) e = refl

    places_same : clock_places g y (leaf_at g.leaves y).holds (role_of g y) ≡ clock_places own z (leaf_at w.leaves z).holds (role_at w z)
    places_same = ap₂ (clock_places g y) holds_is role_is ∙ places_by (leaf_at w.leaves z).holds (role_at w z) refl

    pub to_circuit : (one other : Place) → ShowsPlaces (module_circuit (leafed_module s.scene)) z one other
        → ShowsPlaces (flattened (made_of m is)) (over.number (numbering (leafed_module s.scene) k.first k.own) z) one other
    to_circuit one other (inl h) = inl (record { first = subst (IsFirstPlace one) (sym places_same) h.first; twice = h.twice })
    to_circuit one other (inr h) =
        let l = lives_same h.is_sink in
        inr (record {
          is_clock = holds_is ∙ h.is_clock;
          is_sink = role_is ∙ ap (moved_role n k.array) h.is_sink;
          none_picks = sink_places h.is_sink ∙ h.none_picks;
          first = moved_live l.0 h.first;
          second = moved_live l.0 h.second;
          rest = map (moved_live l.0) h.rest;
          lives = l.1 ∙ ap (map (moved_live l.0)) h.lives;
          one_is = h.one_is;
          other_is = h.other_is;
        })

    pub to_module : (one other : Place)
        → ShowsPlaces (flattened (made_of m is)) (over.number (numbering (leafed_module s.scene) k.first k.own) z) one other
        → ShowsPlaces (module_circuit (leafed_module s.scene)) z one other
    to_module one other (inl h) = inl (record { first = subst (IsFirstPlace one) places_same h.first; twice = h.twice })
    to_module one other (inr h) =
        let sink = moved_sink n k.array (role_at w z) gives (sym role_is ∙ h.is_sink) in
        let l = lives_same sink in
        let ls = first_two l.0 (lives_of own z) h.first h.second h.rest (sym l.1 ∙ h.lives) in
        inr (record {
          is_clock = sym holds_is ∙ h.is_clock;
          is_sink = sink;
          none_picks = sym (sink_places sink) ∙ h.none_picks;
          first = ls.first;
          second = ls.second;
          rest = ls.rest;
          lives = ls.are;
          one_is = h.one_is ∙ ls.first_place;
          other_is = h.other_is ∙ ls.second_place;
        })

    own_path : (rest : LeafPath) × (x : List ℕ) × (path_in s.scene z ≡ named x ∷ rest)
    own_path = let l = leaf_is s.scene fine z lt in (l.leaf.path, l.known.name, l.path)

    path_there : circuit_path g y ≡ s.path ++ path_in s.scene z
    path_there = s.stands.path z lt

    no_instances : (leaf_at w.leaves z).instances ≡ 0
    no_instances =
        let all = module_gifts s.scene (scene_reads s.scene fine) fine in
        let leaves = module_leaves s.scene in
        let b = there (source_leaves s.scene) z (omega (arith, lt, step_long (HaveGifts s.scene) leaves (source_leaves s.scene) all)) in
        let r = step_at (HaveGifts s.scene) leaves (source_leaves s.scene) all z b.0 b.1 in
        ap (λ (l : LeafDeclared). l.instances) (get_or_from_slice_get leaves z r.0 no_leaf r.1) ∙ r.2.instances

    pub instances_there : (leafed_module s.scene).port_leaves ≤ z
        → (leaf_at (flattened (made_of m is)).leaves (over.number (numbering (leafed_module s.scene) k.first k.own) z)).instances ≡ length s.path
    instances_there le = ap (λ (l : LeafDeclared). l.instances) (s.placed z le lt) ∙ omega (arith, no_instances)

    clock_told : prefix_text s.path ++ path_text (path_in s.scene z) ≡ path_text (circuit_path g y)
    clock_told =
        let p = own_path in
        ap (λ q. prefix_text s.path ++ path_text q) p.2 ∙ sym (prefixed s.path p.1 p.0)
        ∙ ap (λ (q : LeafPath). path_text (s.path ++ q)) (sym p.2) ∙ ap path_text (sym path_there)

    component_told : w.port_leaves ≤ z → prefix_text s.path ++ component_of_leaf own z ≡ component_of_leaf g y
    component_told le =
        let p = own_path in
        let many : (leaf_at g.leaves y).instances + 1 ≡ length s.path + 1 = ap (λ j. j + 1) (instances_there le) in
        let one : (leaf_at w.leaves z).instances + 1 ≡ 1 = ap (λ j. j + 1) no_instances in
        let own_is : component_of_leaf own z ≡ path_text (named p.1 ∷ []) = ap path_text (ap₂ take one p.2) in
        ap (λ ts. prefix_text s.path ++ ts) own_is ∙ sym (prefixed s.path p.1 [])
        ∙ ap path_text (sym (take_one s.path (named p.1) p.0) ∙ sym (ap₂ take many (path_there ∙ ap (λ (q : LeafPath). s.path ++ q) p.2)))

    told_by : (one other : Place) → ShowsPlaces own z one other → (h : LeafType) → (leaf_at w.leaves z).holds ≡ h
        → prefix_text s.path ++ clock_path own z h ≡ clock_path g y h
    told_by one other shows a_clock e = clock_told
    told_by one other shows (number u) e =
        component_told (inner_is (λ sink.
        shown_register own z u one other shows e (moved_sink n k.array (role_at w z) gives (sym role_is ∙ sink))))

    -- and it is told alike
    pub fault_is : (one other : Place) → ShowsPlaces (module_circuit (leafed_module s.scene)) z one other
        → fault_behind (prefix_text s.path) (module_circuit (leafed_module s.scene)) z one other
        ≡ fault_behind [] (flattened (made_of m is)) (over.number (numbering (leafed_module s.scene) k.first k.own) z) one other
    fault_is one other shows =
        ap₂ (λ place ts. clock_fault place ts one other) (sym place_is)
        (told_by one other shows (leaf_at w.leaves z).holds refl ∙ ap (clock_path g y) (sym holds_is))
