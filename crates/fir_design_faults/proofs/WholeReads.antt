-- In each sound design of a circuit without a fault of names or types live reads by number are live reads by path.
use Rattle.fir_base.specs.Lists.{In}
use Rattle.fir_meaning.specs.SourceDependence.{PlacedModule, all_modules}
use Rattle.fir_meaning.specs.working.Designs.{made_of}
use Rattle.fir_meaning.specs.working.Flattened.{flattened}
use Rattle.fir_design.proofs.FlatInStep.{leaves_named}
use Rattle.fir_design.proofs.ViewRoles.{views_same}
use Rattle.fir_source_faults.proofs.ModuleDrives.{drives_by_path}
use Rattle.fir_source_faults.proofs.ModuleReads.{scene_reads}
use Rattle.fir_design_faults.specs.working.SameDriveReads.{SameDriveReads}
use Rattle.fir_design_faults.proofs.CircuitReads.{HolderFacts, reads_by_number, reads_by_path}
use Rattle.fir_design_faults.proofs.DrivenPaths.{module_driven}
use Rattle.fir_design_faults.proofs.SceneReads.{scene_reading}
use Rattle.fir_design_faults.proofs.WholeDesigns.{design_below, module_fine}

pub whole_reads : SameDriveReads
whole_reads c (made_of m is) t x y a lt less =
    let g = flattened (made_of m is) in
    let below = design_below c m is t a in
    let facts : (h : PlacedModule) → In (all_modules t) h → HolderFacts h.scene =
    λ h i.
    let f = module_fine c m is t a h i in
    record {
      reading = scene_reading h.scene f;
      drives = λ z within. drives_by_path h.scene f z (scene_reads h.scene f) within;
      leaves = module_driven h.scene f (scene_reads h.scene f);
    } in
    let names = leaves_named c views_same (made_of m is) t a in (
      (λ r. reads_by_path g t m 0 m.port_leaves _ below a.design.sound.once names facts x y lt r),
      (λ r. reads_by_number g t m 0 m.port_leaves _ below a.design.sound.once names facts x y lt less r),
    )
