-- Each leaf of the leaf circuit of a design is, by its number, a leaf of the module that holds the leaf of that number in the tree.
use Rattle.std.proofs.Common.{◌≡◌, ℕ, ◌+◌, ◌<◌, ◌≤◌, [], ◌++◌, length, slice_get, Some, refl, sym, ap, ap₂, ◌∙◌, subst, arith, inl, inr, ◌⊎◌, ⊎_elim}
use Rattle.std.proofs.lemmas.List.{get_or_append_left, get_or-take, length-append, length-take}
use Rattle.std.proofs.lemmas.Option.{slice_get_within}
use Rattle.fir_base.specs.Lists.{In}
use Rattle.fir_base.proofs.Elements.{get_in, number_of}
use Rattle.fir_base.proofs.Members.{in_either, in_map_from}
use Rattle.fir_ast.specs.Circuits.{CircuitTree}
use Rattle.fir_meaning.specs.LeafPaths.{LeafPath}
use Rattle.fir_meaning.specs.ModuleScenes.{Scene, behind_all_ports}
use Rattle.fir_meaning.specs.SourceCircuits.{PlacedLeaf, all_leaves, leaf_path, leaves_of_design, placed, port_leaves, within}
use Rattle.fir_meaning.specs.SourceDependence.{PlacedModule, all_modules}
use Rattle.fir_meaning.specs.SourceDesigns as source
use Rattle.fir_meaning.specs.SourceDesigns.{Instances, SourceDesign}
use Rattle.fir_meaning.specs.SourceRoles.{SourceLeaf, source_leaves, sources_in_block}
use Rattle.fir_meaning.specs.Visibility.{at_head}
use Rattle.fir_meaning.specs.working.Designs.{Items, made_of}
use Rattle.fir_meaning.specs.working.FlatLeaves.{leaves_below}
use Rattle.fir_meaning.specs.working.Flattened as flat
use Rattle.fir_meaning.specs.working.Flattened.{flattened}
use Rattle.fir_meaning.specs.working.LeafCircuits.{LeafCircuit, role_of}
use Rattle.fir_meaning.specs.working.LeafModules.{LeafDeclared, LeafModule, leaf_at, no_leaf}
use Rattle.fir_meaning.specs.working.LeafNames.{place_of_leaf}
use Rattle.fir_meaning.specs.working.LeafedModules.{leafed_module, leaves_of_ports, module_leaves}
use Rattle.fir_meaning.specs.working.Numberings.{Numbering, moved_role, number}
use Rattle.fir_leaf.specs.working.SoundDesigns.{circuit_path}
use Rattle.fir_leaf.proofs.LeafPlaces.{get_left, get_right}
use Rattle.fir_design.specs.working.MeaningLaws.{AreDesigns}
use Rattle.fir_design.specs.working.SameRoles.{SameLeaves}
use Rattle.fir_design.proofs.FlatInStep.{each_leaf, many_leaves}
use Rattle.fir_design.proofs.ListsInStep.{step_long}
use Rattle.fir_design.proofs.NumberedScenes.{scene_numbered}
use Rattle.fir_design.proofs.ViewRoles.{views_same}
use Rattle.fir_source_faults.specs.working.ReadsByPath.{path_in}
use Rattle.fir_source_faults.proofs.ModuleReads.{scene_reads}
use Rattle.fir_design_faults.proofs.ClockChains.{at_get}
use Rattle.fir_design_faults.proofs.ClockGifts.{GivesSame, HaveGifts, ports_gifts, within_gives}
use Rattle.fir_design_faults.proofs.DesignScenes.{design_scenes}
use Rattle.fir_design_faults.proofs.HeldLeaves.{IsHeldBy, design_leaf}
use Rattle.fir_design_faults.proofs.WholeDesigns.{design_below, module_fine}

-- a leaf of the circuit, by its number, is one of a module, as that of the tree is
pub record IsNumbered (g : LeafCircuit) (t : SourceDesign) (x : ℕ) (p : PlacedLeaf) : Type 0 where
  pub holder : PlacedModule
  pub among : In (all_modules t) holder
  pub at : holder.at ≡ p.at
  pub leaf : ℕ
  pub inside : leaf < length (module_leaves holder.scene)
  pub path : path_in holder.scene leaf ≡ p.leaf.path
  pub gives : GivesSame holder.scene (leaf_at (module_leaves holder.scene) leaf).role p.leaf.role
  pub place : place_of_leaf g x ≡ (leaf_at (module_leaves holder.scene) leaf).place
  pub instances : (leaf_at g.leaves x).instances ≡ length p.at
  -- as it stands in the module, or moved
  pub role : (role_of g x ≡ (leaf_at (module_leaves holder.scene) leaf).role)
      ⊎ ((n : Numbering) × (k : ℕ) × (role_of g x ≡ moved_role n k (leaf_at (module_leaves holder.scene) leaf).role))

module _ (c : CircuitTree) (s : Scene) (is : Items) (trees : Instances) (a : AreDesigns c (made_of (leafed_module s) is) (source.made_of s trees)) where
  abbrev m : LeafModule
  m = leafed_module s

  abbrev g : LeafCircuit
  g = flattened (made_of (leafed_module s) is)

  abbrev t : SourceDesign
  t = source.made_of s trees

  ports_long : (u : Scene) → length (leaves_of_ports u at_head u.own.inside.ports) ≡ length (port_leaves u)
  ports_long u =
      step_long (HaveGifts u) (leaves_of_ports u at_head u.own.inside.ports) (port_leaves u) (ports_gifts u u.own.inside.ports at_head)

  roles : (h : PlacedModule) → In (all_modules t) h
      → SameLeaves (leafed_module h.scene).leaves (leafed_module h.scene).arrays (leafed_module h.scene).leaves (source_leaves h.scene)
  roles h i =
      (views_same c h.scene a.names a.types (scene_numbered c a.scenes a.are h.scene (design_scenes a.scenes t a.main [] a.among a.tree h i))).0

  inner_leaf : (x : ℕ) → x < length g.leaves → (p : PlacedLeaf) → leaf_path p ≡ circuit_path g x → IsHeldBy (all_modules t) p → IsNumbered g t x p
  inner_leaf x lt p e h =
      let o = h.holder in
      let v = leafed_module o.scene in
      let f = module_fine c m is t a o h.among in
      let others = sources_in_block o.scene (behind_all_ports o.scene.own.inside) o.scene.own.inside.body in
      let u = in_map_from within others h.leaf h.inner in
      let j = number_of others u.0 u.1 in
      let k = v.port_leaves + j.0 in
      let n = at_get o.scene f (scene_reads o.scene f) (roles o h.among) k u.0
      (get_right (port_leaves o.scene) others v.port_leaves j.0 (sym (ports_long o.scene)) ∙ j.1) in
      let mem = (design_below c m is t a).member o h.among in
      let stands = mem.placed k (omega arith) n.below in
      let at : o.at ≡ p.at = ap (λ (l : PlacedLeaf). l.at) h.is in
      let path : path_in o.scene k ≡ p.leaf.path =
      n.path ∙ ap (λ (l : SourceLeaf). l.path) u.2 ∙ ap (λ (l : PlacedLeaf). l.leaf.path) h.is in
      let long : length o.at ≡ length p.at = ap length at in
      let same : number mem.numbers k ≡ x =
      a.design.sound.once (number mem.numbers k) x (mem.stands.within k n.below) lt
      (mem.stands.path k n.below ∙ ap₂ (λ (q r : LeafPath). q ++ r) at path ∙ e) in
      subst (λ y. IsNumbered g t y p) same
      (record {
        holder = o;
        among = h.among;
        at = at;
        leaf = k;
        inside = n.below;
        path = path;
        gives =
            subst (GivesSame o.scene (leaf_at (module_leaves o.scene) k).role)
            (ap (λ (l : SourceLeaf). l.role) u.2 ∙ ap (λ (l : PlacedLeaf). l.leaf.role) h.is)
            (within_gives o.scene (leaf_at (module_leaves o.scene) k).role u.0.role n.gives);
        place = ap (λ (l : LeafDeclared). l.place) stands.1;
        instances = ap (λ (l : LeafDeclared). l.instances) stands.1 ∙ omega (arith, n.instances, long);
        role = inr (mem.numbers, stands.0, ap (λ (l : LeafDeclared). l.role) stands.1);
      })

  port_leaf : (x : ℕ) → x < length g.leaves → (p : PlacedLeaf) → leaf_path p ≡ circuit_path g x → In (placed [] (port_leaves s)) p → IsNumbered g t x p
  port_leaf x lt p e i =
      let room : m.port_leaves ≤ length m.leaves = a.design.main.0 in
      let main : PlacedModule = record { at = []; scene = s } in
      let f = module_fine c m is t a main (inl refl) in
      let others = sources_in_block s (behind_all_ports s.own.inside) s.own.inside.body in
      let from = in_map_from (λ (l : SourceLeaf). record { at = []; leaf = l }) (port_leaves s) p i in
      let k = number_of (port_leaves s) from.0 from.1 in
      let n = at_get s f (scene_reads s f) (roles main (inl refl)) k.0 from.0 (get_left (port_leaves s) others k.0 from.0 k.1) in
      let low : k.0 < m.port_leaves = omega (arith, slice_get_within (port_leaves s) k.0 from.0 k.1, ports_long s) in
      let below = leaves_below [] 0 0 m.port_leaves 0 (made_of m is) in
      let many : length (flat.port_leaves m) ≡ m.port_leaves = omega (arith, room, length-take m.port_leaves m.leaves) in
      let here : leaf_at g.leaves k.0 ≡ leaf_at (module_leaves s) k.0 =
      get_or_append_left (flat.port_leaves m) below no_leaf k.0 (omega (arith, low, many)) ∙ get_or-take m.port_leaves m.leaves k.0 no_leaf low in
      let path : path_in s k.0 ≡ p.leaf.path = n.path ∙ ap (λ (l : PlacedLeaf). l.leaf.path) from.2 in
      let at : [] ≡ p.at = ap (λ (l : PlacedLeaf). l.at) from.2 in
      let same : k.0 ≡ x =
      a.design.sound.once k.0 x (omega (arith, low, many, length-append (flat.port_leaves m) below)) lt
      (ap (λ (l : LeafDeclared). l.path) here ∙ ap₂ (λ (q r : LeafPath). q ++ r) at path ∙ e) in
      subst (λ y. IsNumbered g t y p) same
      (record {
        holder = main;
        among = inl refl;
        at = at;
        leaf = k.0;
        inside = n.below;
        path = path;
        gives = subst (GivesSame s (leaf_at (module_leaves s) k.0).role) (ap (λ (l : PlacedLeaf). l.leaf.role) from.2) n.gives;
        place = ap (λ (l : LeafDeclared). l.place) here;
        instances = ap (λ (l : LeafDeclared). l.instances) here ∙ n.instances ∙ ap length at;
        role = inl (ap (λ (l : LeafDeclared). l.role) here);
      })

  pub leaf_numbered : (x : ℕ) (p : PlacedLeaf) → slice_get (all_leaves (source.made_of s trees)) x ≡ Some p
      → IsNumbered (flattened (made_of (leafed_module s) is)) (source.made_of s trees) x p
  leaf_numbered x p get =
      let lt : x < length g.leaves = omega (arith, slice_get_within (all_leaves t) x p get, many_leaves c views_same (made_of m is) t a) in
      let e = sym (each_leaf c views_same (made_of m is) t a x p get).path in
      ⊎_elim (λ (i : In (placed [] (port_leaves s)) p). port_leaf x lt p e i)
      (λ (i : In (leaves_of_design [] t) p). inner_leaf x lt p e (design_leaf t [] p i))
      (in_either (placed [] (port_leaves s)) (leaves_of_design [] t) p (get_in (all_leaves t) x p get))
