-- Beside each leaf of a design's table stands one of its tree: they read the same, and the table has the place at which the leaf's module declares it.
use Rattle.std.proofs.Common.{◌≡◌, ℕ, ◌<◌, ◌≤◌, List, [], ◌∷◌, ◌++◌, map, length, slice_get, Some, refl, sym, ap, ◌∙◌, subst, inl, inr, ⊎_elim, arith, length-append}
use Rattle.std.proofs.lemmas.List.{get_or_append_left, get_or-take, length-take}
use Rattle.std.proofs.lemmas.Option.{get_or_from_slice_get, slice_get_within}
use Rattle.fir_base.specs.Lists.{In}
use Rattle.fir_base.proofs.Each.{all_at}
use Rattle.fir_base.proofs.Elements.{get_in, number_of}
use Rattle.fir_base.proofs.Members.{in_either, in_map_from}
use Rattle.fir_ast.specs.Circuits.{CircuitTree}
use Rattle.fir_meaning.specs.ModuleScenes.{Scene, behind_all_ports}
use Rattle.fir_meaning.specs.SourceCircuits.{PlacedLeaf, all_leaves, leaves_of_design, main_ports, placed, port_leaves, role_within, within}
use Rattle.fir_meaning.specs.SourceDependence.{PlacedModule, all_modules, from_main}
use Rattle.fir_meaning.specs.SourceDesigns.{IsSourceDesignOf, SourceDesign}
use Rattle.fir_meaning.specs.SourceDesigns as source
use Rattle.fir_meaning.specs.SourceFacts.{source_place}
use Rattle.fir_meaning.specs.SourceRoles.{SourceLeaf, sources_in_block}
use Rattle.fir_meaning.specs.Visibility.{at_head}
use Rattle.fir_meaning.specs.working.Designs.{Design, Items, made_of}
use Rattle.fir_meaning.specs.working.FlatLeaves.{leaves_below, placed_leaf}
use Rattle.fir_meaning.specs.working.Flattened as flat
use Rattle.fir_meaning.specs.working.Flattened.{flattened}
use Rattle.fir_meaning.specs.working.LeafCircuits.{LeafCircuit, role_of}
use Rattle.fir_meaning.specs.working.LeafModules.{LeafDeclared, LeafModule, leaf_at, no_leaf}
use Rattle.fir_meaning.specs.working.LeafNames.{place_of_leaf}
use Rattle.fir_meaning.specs.working.LeafedModules.{leafed_module, module_leaves}
use Rattle.fir_meaning.specs.working.Numberings.{moved_role, number}
use Rattle.fir_leaf.specs.working.SoundDesigns.{circuit_path}
use Rattle.fir_leaf.proofs.FlatMeaning.{main_at, main_stands}
use Rattle.fir_design.specs.working.MeaningLaws.{AreDesigns}
use Rattle.fir_design.specs.working.SameRoles.{ViewsHaveRoles}
use Rattle.fir_design.proofs.FineScenes.{fine_scene}
use Rattle.fir_design.proofs.FlatInStep.{each_leaf, many_leaves}
use Rattle.fir_design.proofs.InStep.{SamePlaced, SameRoleBelow}
use Rattle.fir_design.proofs.ListsInStep.{step_at}
use Rattle.fir_design.proofs.NumberedScenes.{scene_numbered}
use Rattle.fir_design.proofs.PortsInStep.{LeafInStep, ports_in_step}
use Rattle.fir_source_faults.specs.working.ReadsByPath.{ModulesReadByPath, path_in}
use Rattle.fir_source_faults.proofs.DeclaredPlaces.{source_place_is}
use Rattle.fir_source_faults.proofs.LoneLoops.{within_reads}
use Rattle.fir_source_faults.proofs.RoleReads.{init_reads, path_inits, path_reads, role_reads}
use Rattle.fir_design_faults.proofs.HeldLeaves.{design_leaf}
use Rattle.fir_design_faults.proofs.DesignScenes.{design_scenes}
use Rattle.fir_design_loops.proofs.ListedModules.{IsListed, design_listed}
use Rattle.fir_design_loops.proofs.ModuleLeaves.{HasLeaf, has_leaf}
use Rattle.fir_design_loops.proofs.PortReads.{IsPortRole, all_ports, port_reads}
use Rattle.fir_design_loops.proofs.ReadsBelow.{inits_below, reads_below, within_inits}

pub record LeafBeside (c : LeafCircuit) (t : SourceDesign) (x : ℕ) (p : PlacedLeaf) : Type 0 where
  pub reads : map (circuit_path c) (role_reads (role_of c x)) ≡ from_main p.at (path_reads p.leaf.role)
  pub inits : map (circuit_path c) (init_reads (role_of c x)) ≡ from_main p.at (path_inits p.leaf.role)
  pub holder : PlacedModule
  pub among : In (all_modules t) holder
  pub at : holder.at ≡ p.at
  pub place : source_place holder.scene p.leaf.path ≡ place_of_leaf c x

module _ (c : LeafCircuit) (t : SourceDesign) (once : (x y : ℕ) → x < length c.leaves → y < length c.leaves → circuit_path c x ≡ circuit_path c y → x ≡ y)
    (x : ℕ) (inside : x < length c.leaves) where
  -- a leaf that is no port
  inner_beside : (h : PlacedModule) → In (all_modules t) h → IsListed c.leaves h → (l : SourceLeaf) → HasLeaf h.scene l
      → ((z : ℕ) → z < length (module_leaves h.scene) → source_place h.scene (path_in h.scene z) ≡ (leaf_at (module_leaves h.scene) z).place)
      → SamePlaced c x (record { at = h.at; leaf = within l }) → LeafBeside c t x (record { at = h.at; leaf = within l })
  inner_beside h among listed l has stands same =
      let m = leafed_module h.scene in
      let n = listed.numbers in
      let z = has.number in
      let own = leaf_at (module_leaves h.scene) has.number in
      let number_is : number n z ≡ x =
      once (number n z) x (listed.stands.within z has.inside) inside
      (listed.stands.path z has.inside ∙ ap (λ q. h.at ++ q) has.path ∙ sym same.path) in
      let there : leaf_at c.leaves x ≡ placed_leaf h.at listed.whens n listed.array own =
      ap (leaf_at c.leaves) (sym number_is) ∙ listed.own z has.own has.inside in
      let role : SameRoleBelow c h.at (moved_role n listed.array own.role) (role_within l.role) =
      subst (λ (g : LeafDeclared). SameRoleBelow c h.at g.role (role_within l.role)) there same.role in
      record {
        reads =
            ap (λ (g : LeafDeclared). map (circuit_path c) (role_reads g.role)) there
            ∙ reads_below c h n listed.whens listed.stands listed.array own.role (role_within l.role) role has.sound (has.reads ∙ sym (within_reads l.role));
        inits =
            ap (λ (g : LeafDeclared). map (circuit_path c) (init_reads g.role)) there
            ∙ inits_below c h n listed.whens listed.stands listed.array own.role (role_within l.role) role has.sound (has.inits ∙ sym (within_inits l.role));
        holder = h;
        among = among;
        at = refl;
        place =
            ap (source_place h.scene) (sym has.path) ∙ stands z has.inside ∙ sym (ap (λ (g : LeafDeclared). g.place) there);
      }

-- a port of the main module
module _ (s : Scene) (trees : source.Instances) (is : Items) where
  abbrev m : LeafModule
  m = leafed_module s

  abbrev c : LeafCircuit
  c = flattened (made_of (leafed_module s) is)

  abbrev t : SourceDesign
  t = source.made_of s trees

  port_beside : (m.port_leaves ≤ length m.leaves)
      → ((x y : ℕ) → x < length c.leaves → y < length c.leaves → circuit_path c x ≡ circuit_path c y → x ≡ y)
      → ((z : ℕ) → z < length (module_leaves s) → source_place s (path_in s z) ≡ (leaf_at (module_leaves s) z).place)
      → (x : ℕ) → x < length c.leaves → (l : SourceLeaf) → In (port_leaves s) l → SamePlaced c x (record { at = []; leaf = l })
      → LeafBeside c t x (record { at = []; leaf = l })
  port_beside room once stands x inside l among same =
      let p : PlacedLeaf = record { at = []; leaf = l } in
      let k = number_of (placed [] (port_leaves s)) p (placed_in (port_leaves s) among) in
      let own = step_at (LeafInStep c) (flat.port_leaves m) (placed [] (port_leaves s)) (ports_in_step c s) k.0 p k.1 in
      let low : k.0 < length (flat.port_leaves m) = slice_get_within (flat.port_leaves m) k.0 own.0 own.1 in
      let long : length (flat.port_leaves m) ≡ m.port_leaves = omega (arith, room, length-take m.port_leaves m.leaves) in
      let others = leaves_below [] 0 0 m.port_leaves 0 (made_of m is) in
      let in_list : leaf_at (flat.port_leaves m) k.0 ≡ own.0 = get_or_from_slice_get (flat.port_leaves m) k.0 own.0 no_leaf own.1 in
      let in_table : leaf_at c.leaves k.0 ≡ own.0 = get_or_append_left (flat.port_leaves m) others no_leaf k.0 low ∙ in_list in
      let in_module : leaf_at m.leaves k.0 ≡ own.0 = sym (get_or-take m.port_leaves m.leaves k.0 no_leaf (omega (arith, low, long))) ∙ in_list in
      let number_is : k.0 ≡ x =
      once k.0 x (omega (arith, low, length-append (flat.port_leaves m) others)) inside
      (ap (λ (g : LeafDeclared). g.path) in_table ∙ own.2.path ∙ sym same.path) in
      let there : leaf_at c.leaves x ≡ leaf_at m.leaves k.0 = ap (leaf_at c.leaves) (sym number_is) ∙ in_table ∙ sym in_module in
      let nothing = port_reads c [] (role_of c x) l.role same.role (all_at (λ (y : SourceLeaf). IsPortRole y.role) (port_leaves s) (all_ports s s.own.inside.ports at_head) l among) in
      record {
        reads = ap (map (circuit_path c)) nothing.reads ∙ sym (ap (from_main []) nothing.paths);
        inits = ap (map (circuit_path c)) nothing.inits ∙ sym (ap (from_main []) nothing.path_inits);
        holder = record { at = []; scene = s };
        among = inl refl;
        at = refl;
        place =
            ap (source_place s) (sym (ap (λ (g : LeafDeclared). g.path) in_module ∙ own.2.path)) ∙ stands k.0 (omega (arith, low, long, room))
            ∙ sym (ap (λ (g : LeafDeclared). g.place) there);
      }
    where
      placed_in : (ls : List SourceLeaf) → In ls l → In (placed [] ls) (record { at = []; leaf = l })
      placed_in [] i = absurd i
      placed_in (y ∷ ls) (inl e) = inl (ap (λ z. record { at = []; leaf = z }) e)
      placed_in (y ∷ ls) (inr i) = inr (placed_in ls i)

module _ (circuit : CircuitTree) (roles : ViewsHaveRoles) (reading : ModulesReadByPath) where
  abbrev Beside : Design → SourceDesign → Type 0
  Beside d t = AreDesigns circuit d t → (x : ℕ) (p : PlacedLeaf) → slice_get (all_leaves t) x ≡ Some p → LeafBeside (flattened d) t x p

  pub leaf_beside : (d : Design) (t : SourceDesign) → AreDesigns circuit d t → (x : ℕ) (p : PlacedLeaf) → slice_get (all_leaves t) x ≡ Some p
      → LeafBeside (flattened d) t x p
  leaf_beside (made_of v is) (source.made_of u trees) a =
      let s = a.main in
      subst (λ (w : LeafModule). Beside (made_of w is) (source.made_of u trees)) (sym a.design.is.0)
      (subst (λ (z : Scene). Beside (made_of (leafed_module s) is) (source.made_of z trees)) (sym a.tree.0) main_beside) a
    where
      main_beside : Beside (made_of (leafed_module a.main) is) (source.made_of a.main trees)
      main_beside b x p get =
          let s = a.main in
          let m = leafed_module a.main in
          let d = made_of (leafed_module a.main) is in
          let t = source.made_of a.main trees in
          let g = flattened (made_of (leafed_module a.main) is) in
          let same = each_leaf circuit roles d t b x p get in
          let inside : x < length g.leaves = omega (arith, slice_get_within (all_leaves t) x p get, many_leaves circuit roles d t b) in
          let room = b.design.main.0 in
          let fine = fine_scene circuit s a.names a.types (scene_numbered circuit a.scenes a.are s a.among) in
          let listed = design_listed circuit b.names b.scenes b.are g.leaves d b.main t b.among b.design.is b.tree [] 0 0 m.port_leaves 0
          (main_stands m is room) b.design.main.1 (main_at m is room) in
          ⊎_elim
          (λ (i : In (main_ports t) p).
          let from = in_map_from (λ (l : SourceLeaf). record { at = []; leaf = l }) (port_leaves s) p i in
          subst (LeafBeside g t x) from.2
          (port_beside s trees is room b.design.sound.once (source_place_is s fine) x inside from.0 from.1
          (subst (SamePlaced g x) (sym from.2) same)))
          (λ (i : In (leaves_of_design [] t) p).
          let held = design_leaf t [] p i in
          let h = held.holder in
          let among_scenes = design_scenes b.scenes t b.main [] b.among b.tree h held.among in
          let numbered = scene_numbered circuit b.scenes b.are h.scene among_scenes in
          let sources = sources_in_block h.scene (behind_all_ports h.scene.own.inside) h.scene.own.inside.body in
          let from = in_map_from within sources held.leaf held.inner in
          let k = number_of sources from.0 from.1 in
          let has = has_leaf circuit h.scene b.names b.types numbered roles (reading circuit h.scene b.names b.types numbered) k.0 from.0 k.1 in
          let is_leaf : record { at = h.at; leaf = within from.0 } ≡ p = ap (λ l. record { at = h.at; leaf = l }) from.2 ∙ held.is in
          subst (LeafBeside g t x) is_leaf
          (inner_beside g t b.design.sound.once x inside h held.among (listed h held.among) from.0 has (source_place_is h.scene (fine_scene circuit h.scene b.names b.types numbered))
          (subst (SamePlaced g x) (sym is_leaf) same)))
          (in_either (main_ports t) (leaves_of_design [] t) p (get_in (all_leaves t) x p get))
