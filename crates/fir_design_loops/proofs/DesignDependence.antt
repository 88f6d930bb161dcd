-- In every sound design a leaf depends on another by number exactly where it does by path, and stands at one place.
use Rattle.std.proofs.Common.{◌≡◌, ℕ, ◌<◌, List, [], map, length, slice_get, Some, sym, ap, ◌∙◌, subst, arith}
use Rattle.std.proofs.lemmas.Option.{slice_get_within}
use Rattle.fir_base.specs.Lists.{In}
use Rattle.fir_base.proofs.Elements.{get_in, number_of, there}
use Rattle.fir_base.proofs.Members.{in_map, in_map_from}
use Rattle.fir_ast.specs.Circuits.{CircuitTree}
use Rattle.fir_ast.specs.declared.place.Place.{Place}
use Rattle.fir_meaning.specs.LeafPaths.{LeafPath}
use Rattle.fir_meaning.specs.SourceCircuits as source
use Rattle.fir_meaning.specs.SourceCircuits.{PlacedLeaf, all_leaves, leaf_path}
use Rattle.fir_meaning.specs.SourceDependence.{Depends, DriveReads, LeafDepends, PlacedModule, from_main}
use Rattle.fir_meaning.specs.SourceDesigns.{SourceDesign}
use Rattle.fir_meaning.specs.SourceFacts.{source_place}
use Rattle.fir_meaning.specs.SourceLoops.{StandsAt}
use Rattle.fir_meaning.specs.working.CircuitDependence.{CircuitDepends}
use Rattle.fir_meaning.specs.working.Designs.{Design}
use Rattle.fir_meaning.specs.working.Flattened.{flattened}
use Rattle.fir_meaning.specs.working.LeafCircuits.{LeafCircuit, depth_of, role_of}
use Rattle.fir_meaning.specs.working.LeafModules as role
use Rattle.fir_meaning.specs.working.LeafModules.{LeafDeclared, leaf_at, no_leaf}
use Rattle.fir_meaning.specs.working.LeafNames.{place_of_leaf}
use Rattle.fir_leaf.specs.working.SoundDesigns.{circuit_path}
use Rattle.fir_design.specs.working.MeaningLaws.{AreDesigns}
use Rattle.fir_design.specs.working.SameRoles.{ViewsHaveRoles}
use Rattle.fir_design.proofs.FlatInStep.{each_leaf, leaves_named, leaves_once, many_leaves}
use Rattle.fir_source_faults.specs.working.ReadsByPath.{ModulesReadByPath}
use Rattle.fir_source_faults.proofs.CircuitLeaves.{depends_within, either_way, one_number}
use Rattle.fir_source_faults.proofs.LoneLoops.{sink_below}
use Rattle.fir_source_faults.proofs.LoopWalks.{SameDependence}
use Rattle.fir_source_faults.proofs.RoleReads.{by_role, by_sink, of_role, of_sink, path_by_role, path_by_sink, path_of_role, path_of_sink, path_reads, role_reads}
use Rattle.fir_design_faults.specs.working.SameDriveReads.{SameDriveReads}
use Rattle.fir_design_loops.proofs.InitWalks.{InitBeside, SameInitLeaves}
use Rattle.fir_design_loops.proofs.LeavesBeside.{LeafBeside, leaf_beside}
use Rattle.fir_design_faults.proofs.ModulesOnce.{modules_once}

module _ (circuit : CircuitTree) (roles : ViewsHaveRoles) (reading : ModulesReadByPath) (drives : SameDriveReads) (d : Design) (t : SourceDesign)
    (a : AreDesigns circuit d t) where
  abbrev c : LeafCircuit
  c = flattened d

  once : (x y : ℕ) → x < length c.leaves → y < length c.leaves → circuit_path c x ≡ circuit_path c y → x ≡ y
  once = leaves_once circuit roles d t a

  -- the leaf of a number in the tree
  leaf_of : (x : ℕ) → x < length c.leaves → (p : PlacedLeaf) × (slice_get (all_leaves t) x ≡ Some p)
  leaf_of x lt = there (all_leaves t) x (omega (arith, lt, many_leaves circuit roles d t a))

  beside : (x : ℕ) (p : PlacedLeaf) → slice_get (all_leaves t) x ≡ Some p → LeafBeside (flattened d) t x p
  beside = leaf_beside circuit roles reading d t a

  same_sink : (x : ℕ) (p : PlacedLeaf) → slice_get (all_leaves t) x ≡ Some p → role.is_sink (role_of c x) ≡ source.is_sink_role p.leaf.role
  same_sink x p e = sink_below c p.at (role_of c x) p.leaf.role (each_leaf circuit roles d t a x p e).role

  -- what has the path of a leaf is that leaf
  same_number : (z y : ℕ) → y < length c.leaves → circuit_path c z ≡ circuit_path c y → z ≡ y
  same_number = one_number c once (leaves_named circuit roles d t a)

  -- what is read by number is read by path
  read_path : (xs : List ℕ) (qs : List LeafPath) (y : ℕ) → map (circuit_path (flattened d)) xs ≡ qs → In xs y → In qs (circuit_path (flattened d) y)
  read_path xs qs y e among = subst (λ ps. In ps (circuit_path c y)) e (in_map (circuit_path c) xs y among)

  read_number : (xs : List ℕ) (qs : List LeafPath) (y : ℕ) → y < length (flattened d).leaves → map (circuit_path (flattened d)) xs ≡ qs
      → In qs (circuit_path (flattened d) y) → In xs y
  read_number xs qs y lt e among =
      let z = in_map_from (circuit_path c) xs (circuit_path c y) (subst (λ ps. In ps (circuit_path c y)) (sym e) among) in
      subst (In xs) (same_number z.0 y lt z.2) z.1

  depends_by_path : (x y : ℕ) → y < length c.leaves → CircuitDepends c x y → Depends t (circuit_path c x) (circuit_path c y)
  depends_by_path x y less h =
      let lt = depends_within c x y h in
      let found = leaf_of x lt in
      let p = found.0 in
      let path : circuit_path c x ≡ leaf_path p = (each_leaf circuit roles d t a x p found.1).path in
      let sink = same_sink x p found.1 in
      let q = circuit_path c y in (
        p,
        get_in (all_leaves t) x p found.1,
        sym path,
        either_way (role.is_sink (role_of c x))
            (λ e.
            path_by_sink t p.at (leaf_path p) p.leaf.role q (sym sink ∙ e)
            (subst (λ z. DriveReads t z q) path ((drives circuit d t x y a lt less).0 (of_sink c.body (depth_of c x) x (role_of c x) y e h))))
            (λ e.
            path_by_role t p.at (leaf_path p) p.leaf.role q (sym sink ∙ e)
            (read_path (role_reads (role_of c x)) (from_main p.at (path_reads p.leaf.role)) y (beside x p found.1).reads
            (of_role c.body (depth_of c x) x (role_of c x) y e h))),
      )

  role_by_number : (x y : ℕ) → x < length c.leaves → y < length c.leaves → (p : PlacedLeaf) → slice_get (all_leaves t) x ≡ Some p
      → LeafDepends t p (circuit_path c y) → CircuitDepends c x y
  role_by_number x y lt less p get h =
      let path : circuit_path c x ≡ leaf_path p = (each_leaf circuit roles d t a x p get).path in
      let sink = same_sink x p get in
      let q = circuit_path c y in
      either_way (role.is_sink (role_of c x))
      (λ e.
      by_sink c.body (depth_of c x) x (role_of c x) y e
      ((drives circuit d t x y a lt less).1
      (subst (λ z. DriveReads t z q) (sym path) (path_of_sink t p.at (leaf_path p) p.leaf.role q (sym sink ∙ e) h))))
      (λ e.
      by_role c.body (depth_of c x) x (role_of c x) y e
      (read_number (role_reads (role_of c x)) (from_main p.at (path_reads p.leaf.role)) y less (beside x p get).reads
      (path_of_role t p.at (leaf_path p) p.leaf.role q (sym sink ∙ e) h)))

  -- the number of a leaf of the tree
  record HasNumber (p : PlacedLeaf) : Type 0 where
    number : ℕ
    get : slice_get (all_leaves t) number ≡ Some p
    inside : number < length (flattened d).leaves
    path : circuit_path (flattened d) number ≡ leaf_path p

  has_number : (p : PlacedLeaf) → In (all_leaves t) p → HasNumber p
  has_number p among =
      let x = number_of (all_leaves t) p among in
      record {
        number = x.0;
        get = x.1;
        inside = omega (arith, slice_get_within (all_leaves t) x.0 p x.1, many_leaves circuit roles d t a);
        path = (each_leaf circuit roles d t a x.0 p x.1).path;
      }

  depends_by_number : (x y : ℕ) → x < length c.leaves → y < length c.leaves → Depends t (circuit_path c x) (circuit_path c y) → CircuitDepends c x y
  depends_by_number x y lt less h =
      let n = has_number h.0 h.1 in
      let same : n.number ≡ x = once n.number x n.inside lt (n.path ∙ h.2) in
      role_by_number x y lt less h.0 (subst (λ z. slice_get (all_leaves t) z ≡ Some h.0) same n.get) h.3

  -- places
  stands : (x : ℕ) → x < length c.leaves → StandsAt t (circuit_path c x) (place_of_leaf c x)
  stands x lt =
      let p = leaf_of x lt in
      let l = beside x p.0 p.1 in record {
        leaf = p.0;
        among = get_in (all_leaves t) x p.0 p.1;
        is_leaf = sym (each_leaf circuit roles d t a x p.0 p.1).path;
        holder = l.holder;
        is_holder = l.among;
        within = l.at;
        is = l.place;
      }

  one_place : (x : ℕ) (place : Place) → x < length c.leaves → StandsAt t (circuit_path c x) place → place ≡ place_of_leaf c x
  one_place x place lt h =
      let n = has_number h.leaf h.among in
      let number_is : n.number ≡ x = once n.number x n.inside lt (n.path ∙ h.is_leaf) in
      let l = beside n.number h.leaf n.get in
      let module_is : h.holder ≡ l.holder =
      modules_once circuit a.names a.types a.scenes a.are t a.main a.among a.tree [] h.holder l.holder h.is_holder l.among (h.within ∙ sym l.at) in
      sym h.is ∙ ap (λ (m : PlacedModule). source_place m.scene h.leaf.leaf.path) module_is ∙ l.place ∙ ap (place_of_leaf c) number_is

  pub design_dependence : SameDependence (flattened d) t
  design_dependence = record {
    once = once;
    within = depends_within c;
    numbered = λ p q h. let n = has_number h.0 h.1 in (n.number, n.inside, n.path ∙ h.2);
    by_path = depends_by_path;
    by_number = depends_by_number;
    stands = stands;
    one_place = one_place;
  }

  -- what inits read
  init_beside : (x : ℕ) (p : PlacedLeaf) → slice_get (all_leaves t) x ≡ Some p → InitBeside (flattened d) x p
  init_beside x p get =
      let same = each_leaf circuit roles d t a x p get in record { path = same.path; role = same.role; inits = (beside x p get).inits }

  pub design_inits : SameInitLeaves (flattened d) t
  design_inits = record {
    by_number = λ x lt. let p = leaf_of x lt in (p.0, get_in (all_leaves t) x p.0 p.1, init_beside x p.0 p.1);
    by_path = λ p among. let n = has_number p among in (n.number, n.inside, init_beside n.number p n.get);
    one_number = same_number;
  }
