-- What drives a leaf of a copy in the circuit is what drives it in its module, renumbered; and it is covered where it is covered there.
use Rattle.std.proofs.Common.{◌≡◌, ℕ, ◌+◌, ◌<◌, List, map, Bool, true, length, sym, ap, ◌∙◌, subst}
use Rattle.fir_ast.specs.Circuits.{CircuitTree}
use Rattle.fir_meaning.specs.SourceDependence.{all_modules}
use Rattle.fir_meaning.specs.SourceDesigns.{SourceDesign}
use Rattle.fir_meaning.specs.working.Choices.{covers_all}
use Rattle.fir_meaning.specs.working.Designs.{Items, made_of}
use Rattle.fir_meaning.specs.working.FlatDesigns.{count_below}
use Rattle.fir_meaning.specs.working.Flattened.{flattened}
use Rattle.fir_meaning.specs.working.LeafedModules.{leafed_module}
use Rattle.fir_meaning.specs.working.LeafModules.{LeafModule, depth_at, may_drive, role_at}
use Rattle.fir_meaning.specs.working.Numberings.{Numbering, number, numbering}
use Rattle.fir_meaning.specs.working.TermValues.{Holds}
use Rattle.fir_leaf.specs.working.ClockRoots.{lives_of}
use Rattle.fir_leaf.specs.working.ModuleCircuits.{module_circuit}
use Rattle.fir_leaf.proofs.FlatStores.{depths}
use Rattle.fir_design.specs.working.MeaningLaws.{AreDesigns}
use Rattle.fir_connect.specs.working.Drivers.{driver_of}
use Rattle.fir_connect.specs.working.MovedTerms.{renumbered}
use Rattle.fir_design_faults.proofs.DesignDrives.{InRegion}
use Rattle.fir_design_faults.proofs.FlatDrives.{Agrees, Member}
use Rattle.fir_design_faults.proofs.FlatLives.{moved_live}
use Rattle.fir_design_faults.proofs.MovedDrivers.{driver_moved}
use Rattle.fir_design_faults.proofs.SceneReads.{scene_reading}
use Rattle.fir_design_faults.proofs.WholeDesigns.{design_below, module_fine}
use Rattle.fir_copies.specs.working.Copies.{Copy}
use Rattle.fir_copies.proofs.CopyPlaces.{CopyStands}
use Rattle.fir_copies.proofs.NetLeaves.{driver_in, renumbered_alike}

module _ (c : CircuitTree) (m : LeafModule) (is : Items) (t : SourceDesign) (a : AreDesigns c (made_of m is) t) (ks : List Copy) (k : Copy)
    (s : CopyStands a.scenes (flattened (made_of m is)).leaves (all_modules t) ks k) where
  abbrev w : LeafModule
  w = leafed_module s.scene

  abbrev n : Numbering
  n = numbering (leafed_module s.scene) k.first k.own

  member : Member (flattened (made_of m is)).leaves (flattened (made_of m is)).body 0
      (InRegion m 0 m.port_leaves (m.port_leaves + count_below (made_of m is))) (record { at = s.path; scene = s.scene })
  member = (design_below c m is t a).member (record { at = s.path; scene = s.scene }) s.among

  -- no path is that of two leaves
  same_number : (x : ℕ) → x < length (leafed_module s.scene).leaves
      → number member.numbers x ≡ number (numbering (leafed_module s.scene) k.first k.own) x
  same_number x lt =
      a.design.sound.once (number member.numbers x) (number n x) (member.stands.within x lt) (s.stands.within x lt)
      (member.stands.path x lt ∙ sym (s.stands.path x lt))

  module _ (x : ℕ) (lt : x < length (leafed_module s.scene).leaves) (may : may_drive (role_at (leafed_module s.scene) x) ≡ true) where
    agrees : Agrees (flattened (made_of m is)).leaves (flattened (made_of m is)).body 0 member.numbers (leafed_module s.scene) x
    agrees = (member.agrees x lt may).0

    pub copy_covers :
        covers_all (depths (flattened (made_of m is)).leaves (number (numbering (leafed_module s.scene) k.first k.own) x))
        (number (numbering (leafed_module s.scene) k.first k.own) x) (flattened (made_of m is)).body 0
        ≡ covers_all (depth_at (leafed_module s.scene) x) x (leafed_module s.scene).body 0
    copy_covers =
        subst (λ y. covers_all (depths (flattened (made_of m is)).leaves y) y (flattened (made_of m is)).body 0
        ≡ covers_all (depth_at (leafed_module s.scene) x) x (leafed_module s.scene).body 0) (same_number x lt) agrees.covers

    -- what is live for it is what is live in the module, moved
    pub copy_lives : (p : Numbering)
        × (lives_of (flattened (made_of m is)) (number (numbering (leafed_module s.scene) k.first k.own) x)
        ≡ map (moved_live p) (lives_of (module_circuit (leafed_module s.scene)) x))
    copy_lives = (
      member.numbers,
      subst (λ y. lives_of (flattened (made_of m is)) y ≡ map (moved_live member.numbers) (lives_of (module_circuit (leafed_module s.scene)) x))
          (same_number x lt) agrees.lives,
    )

    pub copy_driver : (outer inner : Holds)
        → ((y : ℕ) → y < length (leafed_module s.scene).leaves → outer (number (numbering (leafed_module s.scene) k.first k.own) y) ≡ inner y)
        → (is_register : Bool)
        → driver_of outer (depths (flattened (made_of m is)).leaves (number (numbering (leafed_module s.scene) k.first k.own) x)) is_register
        (flattened (made_of m is)).body (number (numbering (leafed_module s.scene) k.first k.own) x)
        ≡ renumbered (number (numbering (leafed_module s.scene) k.first k.own))
        (driver_of inner (depth_at (leafed_module s.scene) x) is_register (leafed_module s.scene).body x)
    copy_driver outer inner same is_register =
        let table = (flattened (made_of m is)).leaves in
        let whole = (flattened (made_of m is)).body in
        let own = driver_of inner (depth_at w x) is_register w.body x in
        let moved = driver_moved member.numbers w x (depths table (number member.numbers x)) (depth_at w x) whole w.body agrees.driver lt outer inner
        (λ y less. ap outer (same_number y less) ∙ same y less) is_register in
        let fine = module_fine c m is t a (record { at = s.path; scene = s.scene }) s.among in
        subst (λ y. driver_of outer (depths table y) is_register whole y ≡ renumbered (number member.numbers) own) (same_number x lt) moved
        ∙ renumbered_alike w (number member.numbers) (number n) same_number own
        (driver_in w inner (depth_at w x) x w.body is_register (scene_reading s.scene fine) lt)
