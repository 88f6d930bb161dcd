-- In each sound design of a circuit without a fault of names or types the statements of each module drive leaves of their own, and what is live for them in the
-- whole is what is live in the module; so is what drives them in a net.
use Rattle.std.proofs.Common.{◌≡◌, ℕ, ◌+◌, ◌<◌, List, [], ◌∷◌, Bool, true, false, ◌||◌, length, refl, sym, ap, ◌∙◌, append-nil, inl, inr, arith}
use Rattle.std.specs.List.{list_any}
use Rattle.fir_base.specs.Lists.{In}
use Rattle.fir_ast.specs.Circuits.{CircuitTree}
use Rattle.fir_meaning.specs.LeafPaths.{LeafPath}
use Rattle.fir_meaning.specs.ModuleScenes.{Scene, behind_all_ports}
use Rattle.fir_meaning.specs.SourceChoices as tree
use Rattle.fir_meaning.specs.SourceDependence.{PlacedModule, all_modules}
use Rattle.fir_meaning.specs.SourceDesigns.{SourceDesign}
use Rattle.fir_meaning.specs.SourceDrives.{Drive, module_drives}
use Rattle.fir_meaning.specs.SourceFacts.{source_depth}
use Rattle.fir_meaning.specs.working.Designs.{Items, made_of}
use Rattle.fir_meaning.specs.working.FlatDesigns.{count_below}
use Rattle.fir_meaning.specs.working.Flattened.{flattened}
use Rattle.fir_meaning.specs.working.LeafModules.{LeafModule, may_drive, role_at}
use Rattle.fir_meaning.specs.working.LeafedModules.{leafed_module, module_leaves}
use Rattle.fir_meaning.specs.working.UndrivenChoices.{drives_any}
use Rattle.fir_leaf.proofs.FlatMeaning.{main_at, main_stands}
use Rattle.fir_design.specs.working.MeaningLaws.{AreDesigns}
use Rattle.fir_design.proofs.FineScenes.{IsFineScene, fine_scene}
use Rattle.fir_design.proofs.NumberedScenes.{scene_numbered}
use Rattle.fir_source_faults.specs.working.ReadsByPath.{path_in, scope_of_module}
use Rattle.fir_source_faults.proofs.BlockPieces.{block_piece}
use Rattle.fir_source_faults.proofs.ModuleReads.{scene_reads}
use Rattle.fir_design_faults.proofs.DesignDrives.{DrivesBelow, design_drives}
use Rattle.fir_design_faults.proofs.DesignScenes.{design_scenes}
use Rattle.fir_design_faults.proofs.DrivenPaths.{module_driven}
use Rattle.fir_design_faults.proofs.LastDrives.{in_paths}
use Rattle.fir_design_faults.proofs.PortTurns.{ports_turn}
use Rattle.fir_design_faults.proofs.SceneReads.{scene_reading}

any_there : (depth : ℕ) (q : LeafPath) (ds : List Drive) → list_any (tree.may_drive depth q) ds ≡ true → (d : Drive) × In ds d × (tree.may_drive depth q d ≡ true)
any_there depth q [] e = absurd (cc)
any_there depth q (d ∷ ds) e = by (tree.may_drive depth q d) refl e (any_there depth q ds)
  where
    by : (b : Bool) → tree.may_drive depth q d ≡ b → (b || list_any (tree.may_drive depth q) ds) ≡ true
        → (list_any (tree.may_drive depth q) ds ≡ true → (x : Drive) × In ds x × (tree.may_drive depth q x ≡ true))
        → (x : Drive) × In (d ∷ ds) x × (tree.may_drive depth q x ≡ true)
    by true h k more = (d, inl refl, h)
    by false h k more = let r = more k in (r.0, inr r.1, r.2)

-- the statements of a module drive leaves that may be driven
only_driven : (s : Scene) → IsFineScene s → (y : ℕ) → y < length (module_leaves s) → drives_any y (leafed_module s).body ≡ true
    → may_drive (role_at (leafed_module s) y) ≡ true
only_driven s f y lt e =
    let reading = scene_reads s f in
    let depth = source_depth s (path_in s y) in
    let piece = block_piece s f depth y reading lt s.own.inside.body (behind_all_ports s.own.inside) [] [] 0 refl ([], append-nil (scope_of_module s)) f.legal in
    let some = any_there depth (path_in s y) (module_drives s) (sym piece.holds ∙ e) in
    let z = module_driven s f reading some.0 some.1 (path_in s y) (in_paths some.0.driven.leaves (path_in s y) some.2) in
    let same : z.leaf ≡ y = reading.once z.leaf y z.within lt z.path in
    ap (λ v. may_drive (role_at (leafed_module s) v)) (sym same) ∙ z.may

module _ (c : CircuitTree) (m : LeafModule) (is : Items) (t : SourceDesign) (a : AreDesigns c (made_of m is) t) where
  scene_fine : (s : Scene) → In a.scenes s → IsFineScene s
  scene_fine s i = fine_scene c s a.names a.types (scene_numbered c a.scenes a.are s i)

  -- the modules of a design are modules of the circuit
  pub module_fine : (h : PlacedModule) → In (all_modules t) h → IsFineScene h.scene
  module_fine h i = scene_fine h.scene (design_scenes a.scenes t a.main [] a.among a.tree h i)

  pub design_below : DrivesBelow (flattened (made_of m is)).leaves m (all_modules t) 0 m.port_leaves (m.port_leaves + count_below (made_of m is))
      (flattened (made_of m is)).body 0
  design_below =
      let room = a.design.main.0 in
      design_drives c a.names a.scenes a.are (flattened (made_of m is)).leaves (λ s i z within e. only_driven s (scene_fine s i) z within e)
      (λ s i. scene_reading s (scene_fine s i))
      (ports_turn c a.names a.types a.scenes a.are) (made_of m is) a.main t a.among a.design.is a.tree [] 0 0 m.port_leaves 0 (main_stands m is room) room
      (omega arith) a.design.main.1 a.design.named.2 a.design.named.1 (main_at m is room)
