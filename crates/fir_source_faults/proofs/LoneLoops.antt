-- A design without instances depends on itself by number where its tree does by path.
use Rattle.std.proofs.Common.{◌≡◌, ◌↔◌, ℕ, ◌<◌, ◌≤◌, List, [], ◌∷◌, ◌++◌, map, length, ◌+◌, slice_get, Some, refl, sym, ap, ◌∙◌, subst, append-nil, arith, inl, ⊎_elim}
use Rattle.std.proofs.lemmas.Option.{get_or_from_slice_get, slice_get_within}
use Rattle.fir_meaning.specs.working.LeafNames.{place_of_leaf}
use Rattle.fir_ast.specs.declared.place.Place.{Place}
use Rattle.fir_ast.specs.Faults.{Fault}
use Rattle.fir_source_faults.proofs.CircuitLeaves.{depends_within, either_way, one_number}
use Rattle.fir_source_faults.proofs.DeclaredPlaces.{source_place_is}
use Rattle.fir_meaning.specs.working.CircuitDependence.{CircuitDepends}
use Rattle.fir_meaning.specs.SourceLoops.{ShowsLoop, StandsAt}
use Rattle.fir_source_faults.proofs.LoopWalks.{SameDependence, same_loops}
use Rattle.fir_meaning.specs.working.LoopFaults as numbered
use Rattle.fir_base.specs.Lists.{In}
use Rattle.fir_base.proofs.Elements.{there, get_in, number_of}
use Rattle.fir_base.proofs.Members.{in_map, in_map_from}
use Rattle.fir_ast.specs.Circuits.{CircuitTree}
use Rattle.fir_meaning.specs.working.Choices as over
use Rattle.fir_meaning.specs.working.Designs.{Items, block_of, made_of}
use Rattle.fir_meaning.specs.working.FlatDesigns.{inner_leaves}
use Rattle.fir_meaning.specs.working.Flattened.{flattened}
use Rattle.fir_meaning.specs.working.LeafBlocks.{LeafBlock}
use Rattle.fir_meaning.specs.working.LeafCircuits.{LeafCircuit, depth_of, role_of}
use Rattle.fir_meaning.specs.working.LeafModules as role
use Rattle.fir_meaning.specs.working.LeafModules.{LeafDeclared, LeafModule, Role, depth_at, leaf_at, no_leaf}
use Rattle.fir_meaning.specs.LeafPaths.{LeafPath}
use Rattle.fir_meaning.specs.ModuleScenes.{Scene, behind_all_ports}
use Rattle.fir_meaning.specs.working.LeafedModules.{leafed_module, leaves_in_block, leaves_of_ports, module_leaves}
use Rattle.fir_meaning.specs.working.Numberings.{numbering}
use Rattle.fir_meaning.specs.SourceChoices.{IsLive, live_reads}
use Rattle.fir_meaning.specs.SourceCircuits as source
use Rattle.fir_meaning.specs.SourceCircuits.{PlacedLeaf, all_leaves, leaf_path, placed, port_leaves, role_within, within}
use Rattle.fir_meaning.specs.SourceDependence.{DriveReads, PlacedModule, from_main, Depends, LeafDepends}
use Rattle.fir_meaning.specs.SourceDesigns.{SourceDesign, no_instances}
use Rattle.fir_meaning.specs.SourceDesigns as tree
use Rattle.fir_meaning.specs.SourceDrives.{Drive, module_drives}
use Rattle.fir_meaning.specs.SourceFacts.{source_depth, source_place}
use Rattle.fir_meaning.specs.SourceRoles as sources
use Rattle.fir_meaning.specs.SourceRoles.{SourceLeaf, SourceRole, sources_in_block, sources_of_ports}
use Rattle.fir_meaning.specs.Visibility.{at_head}
use Rattle.fir_leaf.specs.working.SoundDesigns.{circuit_path}
use Rattle.fir_design.specs.working.MeaningLaws.{AreDesigns}
use Rattle.fir_design.specs.working.SameRoles.{ViewsHaveRoles}
use Rattle.fir_design.proofs.FineScenes.{IsFineScene}
use Rattle.fir_design.proofs.FlatInStep.{each_leaf, leaves_named, leaves_once, many_leaves}
use Rattle.fir_design.proofs.InStep.{SameRoleBelow}
use Rattle.fir_design.proofs.ListsInStep.{AreInStep, step_at, step_joined}
use Rattle.fir_source_faults.specs.working.DrivesByPath.{DrivesByPath}
use Rattle.fir_source_faults.specs.working.ReadsByPath.{path_in, paths_in}
use Rattle.fir_source_faults.proofs.BlockReads.{AreRead}
use Rattle.fir_source_faults.proofs.LoneLeaves.{lone_leaf, lone_long}
use Rattle.fir_source_faults.proofs.LoneNumbers.{HaveNoInstances, body_same, lone_number}
use Rattle.fir_source_faults.proofs.RoleReads.{path_reads, role_reads, by_role, by_sink, of_role, of_sink, path_by_role, path_by_sink, path_of_role, path_of_sink}

-- roles are sinks in both
pub sink_below : (c : LeafCircuit) (at : LeafPath) (r : Role) (q : SourceRole) → SameRoleBelow c at r q → role.is_sink r ≡ source.is_sink_role q
sink_below c at role.source sources.source h = refl
sink_below c at role.sink sources.sink h = refl
sink_below c at (role.computed t) (sources.computed scope e p) h = refl
sink_below c at (role.register k r) (sources.register scope clock reset p) h = refl
sink_below c at (role.reading r) (sources.reading p) h = refl
sink_below c at (role.pipe r x u) (sources.pipe p clock kept) h = refl
sink_below c at _ _ h = absurd h

pub within_reads : (r : SourceRole) → path_reads (role_within r) ≡ path_reads r
within_reads sources.source = refl
within_reads sources.sink = refl
within_reads (sources.computed scope e p) = refl
within_reads (sources.register scope clock reset p) = refl
within_reads (sources.reading p) = refl
within_reads (sources.pipe p clock kept) = refl

module _ (s : Scene) where
  -- the leaf is one of the main module, and what it reads by path is what the leaf of a number reads
  pub record IsOwnLeaf (l : LeafDeclared) (p : PlacedLeaf) : Type 0 where
    pub at : p.at ≡ []
    pub reads : paths_in s (role_reads l.role) ≡ path_reads p.leaf.role

  ports_own : (ls : List LeafDeclared) (ts : List SourceLeaf) → AreRead s ls ts → AreInStep IsOwnLeaf ls (placed [] ts)
  ports_own [] [] h = tt
  ports_own [] (t ∷ ts) h = absurd h
  ports_own (l ∷ ls) [] h = absurd h
  ports_own (l ∷ ls) (t ∷ ts) h = (record { at = refl; reads = h.0.reads }, ports_own ls ts h.1)

  inner_own : (ls : List LeafDeclared) (ts : List SourceLeaf) → AreRead s ls ts → AreInStep IsOwnLeaf ls (placed [] (map within ts))
  inner_own [] [] h = tt
  inner_own [] (t ∷ ts) h = absurd h
  inner_own (l ∷ ls) [] h = absurd h
  inner_own (l ∷ ls) (t ∷ ts) h = (
    record { at = refl; reads = h.0.reads ∙ sym (within_reads t.role) },
    inner_own ls ts h.1,
  )

  abbrev tree_of : SourceDesign
  tree_of = tree.made_of s no_instances

  -- ports in front
  all_own : AreRead s (leaves_of_ports s at_head s.own.inside.ports) (port_leaves s)
      → AreRead s (leaves_in_block s (behind_all_ports s.own.inside) s.own.inside.body)
      (sources_in_block s (behind_all_ports s.own.inside) s.own.inside.body)
      → AreInStep IsOwnLeaf (module_leaves s) (all_leaves (tree.made_of s no_instances))
  all_own ports inner =
      let head = behind_all_ports s.own.inside in
      let body = s.own.inside.body in
      let ls = leaves_in_block s head body in
      let ts = sources_in_block s head body in
      subst (λ ps. AreInStep IsOwnLeaf (module_leaves s) (placed [] (port_leaves s) ++ ps)) (sym (append-nil (placed [] (map within ts))))
      (step_joined IsOwnLeaf (leaves_of_ports s at_head s.own.inside.ports) ls (placed [] (port_leaves s)) (placed [] (map within ts))
      (ports_own (leaves_of_ports s at_head s.own.inside.ports) (port_leaves s) ports) (inner_own ls ts inner))

-- what is said of a module that stands alone
pub record StandsAlone (s : Scene) (is : Items) : Type 0 where
  pub fine : IsFineScene s
  pub room : (leafed_module s).port_leaves ≤ length (leafed_module s).leaves
  pub body : block_of is ≡ (leafed_module s).body
  pub none : HaveNoInstances is
  pub ports : AreRead s (leaves_of_ports s at_head s.own.inside.ports) (port_leaves s)
  pub inner :
      AreRead s (leaves_in_block s (behind_all_ports s.own.inside) s.own.inside.body)
      (sources_in_block s (behind_all_ports s.own.inside) s.own.inside.body)
  pub drives : (x : ℕ) → x < length (module_leaves s) → DrivesByPath s x

module _ (circuit : CircuitTree) (roles : ViewsHaveRoles) (s : Scene) (is : Items)
    (a : AreDesigns circuit (made_of (leafed_module s) is) (tree.made_of s no_instances)) (alone : StandsAlone s is) where
  abbrev m : LeafModule
  m = leafed_module s

  abbrev c : LeafCircuit
  c = flattened (made_of (leafed_module s) is)

  abbrev t : SourceDesign
  t = tree.made_of s no_instances

  body_is : c.body ≡ m.body
  body_is =
      body_same (numbering m 0 m.port_leaves) (lone_number m) (m.port_leaves + length (inner_leaves m)) is alone.none ∙ alone.body

  long : length c.leaves ≡ length m.leaves
  long = lone_long m is alone.room alone.none

  path_is : (x : ℕ) → circuit_path c x ≡ path_in s x
  path_is x = (lone_leaf m is alone.room alone.none x).path

  -- the leaf of a number in the tree
  record TreeLeaf (x : ℕ) (leaf : PlacedLeaf) : Type 0 where
    at : leaf.at ≡ []
    path : leaf_path leaf ≡ circuit_path c x
    sink : role.is_sink (role_of c x) ≡ source.is_sink_role leaf.leaf.role
    reads : paths_in s (role_reads (role_of c x)) ≡ path_reads leaf.leaf.role

  leaf_by : (x : ℕ) (p : PlacedLeaf) → slice_get (all_leaves t) x ≡ Some p → TreeLeaf x p
  leaf_by x p e =
      let own = step_at (IsOwnLeaf s) m.leaves (all_leaves t) (all_own s alone.ports alone.inner) x p e in
      let same = each_leaf circuit roles (made_of m is) t a x p e in
      let here : leaf_at m.leaves x ≡ own.0 = get_or_from_slice_get m.leaves x own.0 no_leaf own.1 in
      record {
        at = own.2.at;
        path = sym same.path;
        sink = sink_below c p.at (role_of c x) p.leaf.role same.role;
        reads =
            ap (paths_in s) ((lone_leaf m is alone.room alone.none x).reads ∙ ap (λ (l : LeafDeclared). role_reads l.role) here) ∙ own.2.reads;
      }

  leaf_of : (x : ℕ) → x < length c.leaves → (p : PlacedLeaf) × (slice_get (all_leaves t) x ≡ Some p)
  leaf_of x lt = there (all_leaves t) x (omega (arith, lt, many_leaves circuit roles (made_of m is) t a))

  leaf_within : (x : ℕ) (p : PlacedLeaf) → slice_get (all_leaves t) x ≡ Some p → x < length c.leaves
  leaf_within x p e = omega (arith, slice_get_within (all_leaves t) x p e, many_leaves circuit roles (made_of m is) t a)

  once : (x y : ℕ) → x < length c.leaves → y < length c.leaves → circuit_path c x ≡ circuit_path c y → x ≡ y
  once = leaves_once circuit roles (made_of m is) t a

  -- what has the path of a leaf is that leaf
  number_is : (z y : ℕ) → y < length c.leaves → path_in s z ≡ circuit_path c y → z ≡ y
  number_is z y lt e = one_number c once (leaves_named circuit roles (made_of m is) t a) z y lt (path_is z ∙ e)

  -- what is read by number is read by path
  read_path : (xs : List ℕ) (ps : List LeafPath) (y : ℕ) → paths_in s xs ≡ ps → In xs y → In (from_main [] ps) (circuit_path c y)
  read_path xs ps y e among =
      subst (In (from_main [] ps)) (sym (path_is y))
      (in_map (λ (q : LeafPath). [] ++ q) ps (path_in s y) (subst (λ qs. In qs (path_in s y)) e (in_map (path_in s) xs y among)))

  read_number : (xs : List ℕ) (ps : List LeafPath) (y : ℕ) → y < length c.leaves → paths_in s xs ≡ ps
      → In (from_main [] ps) (circuit_path c y) → In xs y
  read_number xs ps y lt e among =
      let q = in_map_from (λ (p : LeafPath). [] ++ p) ps (circuit_path c y) among in
      let z = in_map_from (path_in s) xs q.0 (subst (λ qs. In qs q.0) (sym e) q.1) in
      subst (In xs) (number_is z.0 y lt (z.2 ∙ q.2)) z.1

  -- statements
  live_in : (x : ℕ) → (l : over.Live) → over.IsLive (depth_of c x) x c.body l ↔ over.IsLive (depth_at m x) x m.body l
  live_in x l =
      subst (λ (b : LeafBlock). over.IsLive (depth_of c x) x c.body l ↔ over.IsLive (depth_at m x) x b l) body_is
      (subst (λ (k : ℕ). over.IsLive (depth_of c x) x c.body l ↔ over.IsLive k x c.body l) (lone_leaf m is alone.room alone.none x).depth
      ((λ h. h), (λ h. h)))

  drive_by_path : (x y : ℕ) → x < length c.leaves → over.LiveReads (depth_of c x) x c.body y → DriveReads t (circuit_path c x) (circuit_path c y)
  drive_by_path x y lt h =
      let by = alone.drives x (omega (arith, lt, long)) in
      let d = by.live h.live ((live_in x h.live).0 h.is_live) in
      record {
        holder = record { at = []; scene = s };
        among = inl refl;
        leaf = path_in s x;
        is = sym (path_is x);
        drive = d.0;
        live = d.1;
        reads =
            read_path (over.live_reads h.live) (live_reads (source_depth s (path_in s x)) (path_in s x) s d.0) y d.2.reads h.read;
      }

  drive_at : (x y : ℕ) → x < length c.leaves → y < length c.leaves → (d : Drive)
      → IsLive (source_depth s (path_in s x)) (path_in s x) (module_drives s) d
      → In (from_main [] (live_reads (source_depth s (path_in s x)) (path_in s x) s d)) (circuit_path c y)
      → over.LiveReads (depth_of c x) x c.body y
  drive_at x y lt less d live among =
      let by = alone.drives x (omega (arith, lt, long)) in
      let l = by.live_back d live in
      record {
        live = l.0;
        is_live = (live_in x l.0).1 l.1;
        read =
            read_number (over.live_reads l.0) (live_reads (source_depth s (path_in s x)) (path_in s x) s d) y less l.2.reads among;
      }

  drive_by_number : (x y : ℕ) → x < length c.leaves → y < length c.leaves → DriveReads t (circuit_path c x) (circuit_path c y)
      → over.LiveReads (depth_of c x) x c.body y
  drive_by_number x y lt less h =
      ⊎_elim (λ (e : record { at = []; scene = s } ≡ h.holder). go h.holder e h.leaf h.is h.drive h.live h.reads) (λ (b : ⊥). absurd b) h.among
    where
      at_leaf : (q : LeafPath) → path_in s x ≡ q → (d : Drive) → IsLive (source_depth s q) q (module_drives s) d
          → In (from_main [] (live_reads (source_depth s q) q s d)) (circuit_path c y) → over.LiveReads (depth_of c x) x c.body y
      at_leaf q e =
          subst (λ q. (d : Drive) → IsLive (source_depth s q) q (module_drives s) d
          → In (from_main [] (live_reads (source_depth s q) q s d)) (circuit_path c y) → over.LiveReads (depth_of c x) x c.body y) e
          (drive_at x y lt less)

      go : (holder : PlacedModule) → record { at = []; scene = s } ≡ holder → (q : LeafPath) → holder.at ++ q ≡ circuit_path c x → (d : Drive)
          → IsLive (source_depth holder.scene q) q (module_drives holder.scene) d
          → In (from_main holder.at (live_reads (source_depth holder.scene q) q holder.scene d)) (circuit_path c y)
          → over.LiveReads (depth_of c x) x c.body y
      go holder e =
          subst (λ (p : PlacedModule). (q : LeafPath) → p.at ++ q ≡ circuit_path c x → (d : Drive)
          → IsLive (source_depth p.scene q) q (module_drives p.scene) d
          → In (from_main p.at (live_reads (source_depth p.scene q) q p.scene d)) (circuit_path c y)
          → over.LiveReads (depth_of c x) x c.body y) e
          (λ q e. at_leaf q (sym (path_is x) ∙ sym e))

  depends_by_path : (x y : ℕ) → x < length c.leaves → CircuitDepends c x y → Depends t (circuit_path c x) (circuit_path c y)
  depends_by_path x y lt h =
      let found = leaf_of x lt in
      let p = found.0 in
      let l = leaf_by x p found.1 in
      let q = circuit_path c y in (
        p,
        get_in (all_leaves t) x p found.1,
        l.path,
        either_way (role.is_sink (role_of c x))
            (λ e.
            path_by_sink t p.at (leaf_path p) p.leaf.role q (sym l.sink ∙ e)
            (subst (λ z. DriveReads t z q) (sym l.path) (drive_by_path x y lt (of_sink c.body (depth_of c x) x (role_of c x) y e h))))
            (λ e.
            path_by_role t p.at (leaf_path p) p.leaf.role q (sym l.sink ∙ e)
            (subst (λ at. In (from_main at (path_reads p.leaf.role)) q) (sym l.at)
            (read_path (role_reads (role_of c x)) (path_reads p.leaf.role) y l.reads (of_role c.body (depth_of c x) x (role_of c x) y e h)))),
      )

  role_by_number : (x y : ℕ) → x < length c.leaves → y < length c.leaves → (p : PlacedLeaf) → slice_get (all_leaves t) x ≡ Some p
      → LeafDepends t p (circuit_path c y) → CircuitDepends c x y
  role_by_number x y lt less p get h =
      let l = leaf_by x p get in
      let q = circuit_path c y in
      either_way (role.is_sink (role_of c x))
      (λ e.
      by_sink c.body (depth_of c x) x (role_of c x) y e
      (drive_by_number x y lt less
      (subst (λ z. DriveReads t z q) l.path (path_of_sink t p.at (leaf_path p) p.leaf.role q (sym l.sink ∙ e) h))))
      (λ e.
      by_role c.body (depth_of c x) x (role_of c x) y e
      (read_number (role_reads (role_of c x)) (path_reads p.leaf.role) y less l.reads
      (subst (λ at. In (from_main at (path_reads p.leaf.role)) q) l.at (path_of_role t p.at (leaf_path p) p.leaf.role q (sym l.sink ∙ e) h))))

  -- the number of a leaf of the tree
  record HasNumber (p : PlacedLeaf) : Type 0 where
    number : ℕ
    get : slice_get (all_leaves t) number ≡ Some p
    inside : number < length c.leaves
    path : circuit_path c number ≡ leaf_path p

  has_number : (p : PlacedLeaf) → In (all_leaves t) p → HasNumber p
  has_number p among =
      let x = number_of (all_leaves t) p among in
      record { number = x.0; get = x.1; inside = leaf_within x.0 p x.1; path = (each_leaf circuit roles (made_of m is) t a x.0 p x.1).path }

  depends_by_number : (x y : ℕ) → x < length c.leaves → y < length c.leaves → Depends t (circuit_path c x) (circuit_path c y) → CircuitDepends c x y
  depends_by_number x y lt less h =
      let n = has_number h.0 h.1 in
      let same : n.number ≡ x = once n.number x n.inside lt (n.path ∙ h.2) in
      role_by_number x y lt less h.0 (subst (λ z. slice_get (all_leaves t) z ≡ Some h.0) same n.get) h.3

  -- places
  own_place : (x : ℕ) → x < length c.leaves → (p : PlacedLeaf) → p.at ≡ [] → leaf_path p ≡ circuit_path c x
      → source_place s p.leaf.path ≡ place_of_leaf c x
  own_place x lt p at e =
      let path : p.leaf.path ≡ path_in s x = sym (ap (λ q. q ++ p.leaf.path) at) ∙ e ∙ path_is x in
      ap (source_place s) path ∙ source_place_is s alone.fine x (omega (arith, lt, long)) ∙ sym (lone_leaf m is alone.room alone.none x).place

  stands : (x : ℕ) → x < length c.leaves → StandsAt t (circuit_path c x) (place_of_leaf c x)
  stands x lt =
      let p = leaf_of x lt in
      let l = leaf_by x p.0 p.1 in record {
        leaf = p.0;
        among = get_in (all_leaves t) x p.0 p.1;
        is_leaf = l.path;
        holder = record { at = []; scene = s };
        is_holder = inl refl;
        within = sym l.at;
        is = own_place x lt p.0 l.at l.path;
      }

  one_place : (x : ℕ) (place : Place) → x < length c.leaves → StandsAt t (circuit_path c x) place → place ≡ place_of_leaf c x
  one_place x place lt h =
      ⊎_elim (λ (e : record { at = []; scene = s } ≡ h.holder). go h.holder e h.within h.is) (λ (b : ⊥). absurd b) h.is_holder
    where
      go : (holder : PlacedModule) → record { at = []; scene = s } ≡ holder → holder.at ≡ h.leaf.at
          → source_place holder.scene h.leaf.leaf.path ≡ place → place ≡ place_of_leaf c x
      go holder e =
          subst (λ (p : PlacedModule). p.at ≡ h.leaf.at → source_place p.scene h.leaf.leaf.path ≡ place → place ≡ place_of_leaf c x) e
          (λ at is. sym is ∙ own_place x lt h.leaf (sym at) h.is_leaf)

  lone_dependence : SameDependence c t
  lone_dependence = record {
    once = once;
    within = depends_within c;
    numbered = λ p q h. let n = has_number h.0 h.1 in (n.number, n.inside, n.path ∙ h.2);
    by_path = λ x y less h. depends_by_path x y (depends_within c x y h) h;
    by_number = depends_by_number;
    stands = stands;
    one_place = one_place;
  }

  pub lone_same : (f : Fault) → numbered.ShowsLoop (flattened (made_of (leafed_module s) is)) f ↔ ShowsLoop (tree.made_of s no_instances) f
  lone_same = same_loops c t lone_dependence
