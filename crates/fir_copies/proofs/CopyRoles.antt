-- What gives a leaf of a copy its value in the net of the circuit is what gives it in the net of its module, renumbered.
use Rattle.std.proofs.Common.{◌≡◌, ℕ, ◌<◌, List, Bool, true, false, nat_lt, length, Option, Some, None, option_map, refl, sym, ap, ◌∙◌, subst, inl, inr, ◌⊎◌}
use Rattle.std.proofs.lemmas.Bool.{ltb-false, ltb-true}
use Rattle.fir_ast.specs.Circuits.{CircuitTree}
use Rattle.fir_meaning.specs.LeafTypes.{number_type}
use Rattle.fir_meaning.specs.SourceDependence.{all_modules}
use Rattle.fir_meaning.specs.SourceDesigns.{SourceDesign}
use Rattle.fir_meaning.specs.working.Designs.{Items, made_of}
use Rattle.fir_meaning.specs.working.Flattened.{flattened}
use Rattle.fir_meaning.specs.working.LeafBlocks.{LeafBlock}
use Rattle.fir_meaning.specs.working.LeafedModules.{leafed_module}
use Rattle.fir_meaning.specs.working.LeafModules as over
use Rattle.fir_meaning.specs.working.LeafModules.{LeafModule, LeafReset, Role, depth_at, may_drive, role_at}
use Rattle.fir_meaning.specs.working.Numberings.{Numbering, moved_reset, moved_role, number, numbering}
use Rattle.fir_meaning.specs.working.TermValues.{Holds}
use Rattle.fir_design.specs.working.MeaningLaws.{AreDesigns}
use Rattle.fir_design.proofs.FineScenes.{IsFineScene}
use Rattle.fir_connect.specs.working.Drivers.{driver_of}
use Rattle.fir_connect.specs.working.MovedTerms.{moved_net_role, renumbered, renumbered_reset}
use Rattle.fir_connect.specs.working.NetRoles.{computed, driven, net_reset, net_role, net_role_at, net_types}
use Rattle.fir_design_faults.proofs.AllTerms.{MayResetReads, RoleReads}
use Rattle.fir_design_faults.proofs.RenumberedTerms.{HaveTypes, lowered_moved}
use Rattle.fir_design_faults.proofs.WholeDesigns.{module_fine}
use Rattle.fir_connect.specs.working.CircuitModules.{as_module}
use Rattle.fir_copies.specs.working.Copies.{Copy}
use Rattle.fir_copies.proofs.CopyDrivers.{copy_driver}
use Rattle.fir_copies.proofs.CopyLeaves.{copy_holds, copy_role}
use Rattle.fir_copies.proofs.CopyPlaces.{CopyStands, HaveOneWidths}
use Rattle.fir_copies.proofs.PortRoles.{port_role_is}
use Rattle.fir_copies.proofs.TypedDesigns.{role_reads_own}

-- of a role over the module's leaves, by what drives its leaf
module _ (n : Numbering) (m : LeafModule) (ports : n.ports ≡ m.port_leaves) (outer inner : Holds) (same : HaveTypes n m outer inner) (array : ℕ) where
  reset_renumbered : (r : Option LeafReset) → MayResetReads m r
      → option_map (net_reset outer) (option_map (moved_reset n) r) ≡ option_map (renumbered_reset (number n)) (option_map (net_reset inner) r)
  reset_renumbered None h = refl
  reset_renumbered (Some r) h =
      let condition = (lowered_moved n outer inner m ports same r.condition h.condition).is in
      let init = (lowered_moved n outer inner m ports same r.init h.init).is in
      ap Some (rw (condition, init) refl)

  role_renumbered : (depth own_depth x : ℕ) (whole own : LeafBlock) (r : Role) → (r ≡ over.source → ⊥) → RoleReads m r
      → (may_drive r ≡ true → (is_register : Bool)
      → driver_of outer depth is_register whole (number n x) ≡ renumbered (number n) (driver_of inner own_depth is_register own x))
      → net_role outer depth whole (number n x) (moved_role n array r) ≡ moved_net_role n array (net_role inner own_depth own x r)
  role_renumbered depth own_depth x whole own over.source none reads drives = absurd (none refl)
  role_renumbered depth own_depth x whole own over.sink none reads drives = ap driven (drives refl false)
  role_renumbered depth own_depth x whole own (over.computed t) none reads drives = ap computed (lowered_moved n outer inner m ports same t reads).is
  role_renumbered depth own_depth x whole own (over.register clock reset) none reads drives =
      let clocks = (lowered_moved n outer inner m ports same clock reads.0).is in
      let resets = reset_renumbered reset reads.1 in
      let takes = drives refl true in
      rw (clocks, resets, takes) refl
  role_renumbered depth own_depth x whole own (over.reading r) none reads drives = refl
  role_renumbered depth own_depth x whole own (over.pipe r clock under) none reads drives = refl

module _ (c : CircuitTree) (m : LeafModule) (is : Items) (t : SourceDesign) (a : AreDesigns c (made_of m is) t) (alike : HaveOneWidths a.scenes)
    (ks : List Copy) (k : Copy) (s : CopyStands a.scenes (flattened (made_of m is)).leaves (all_modules t) ks k) where
  abbrev w : LeafModule
  w = leafed_module s.scene

  abbrev n : Numbering
  n = numbering (leafed_module s.scene) k.first k.own

  fine : IsFineScene s.scene
  fine = module_fine c m is t a (record { at = s.path; scene = s.scene }) s.among

  -- the terms of a role read leaves of the module
  reads : (x : ℕ) → x < length (leafed_module s.scene).leaves → RoleReads (leafed_module s.scene) (role_at (leafed_module s.scene) x)
  reads x lt = by (nat_lt x w.port_leaves) refl
    where
      of_port : (r : Role) → (r ≡ over.source) ⊎ (r ≡ over.sink) → RoleReads w r
      of_port r (inl e) = subst (RoleReads w) (sym e) tt
      of_port r (inr e) = subst (RoleReads w) (sym e) tt

      by : (b : Bool) → nat_lt x w.port_leaves ≡ b → RoleReads w (role_at w x)
      by true e = of_port (role_at w x) (port_role_is s.scene x (ltb-true x w.port_leaves e))
      by false e = role_reads_own s.scene fine x (ltb-false x w.port_leaves e) lt

  same_types : HaveTypes (numbering (leafed_module s.scene) k.first k.own) (leafed_module s.scene) (net_types (as_module (flattened (made_of m is))))
      (net_types (leafed_module s.scene))
  same_types x lt = ap number_type (copy_holds a.scenes (flattened (made_of m is)).leaves (all_modules t) ks k s alike x lt)

  pub copy_net_role : (x : ℕ) → x < length (leafed_module s.scene).leaves → (role_at (leafed_module s.scene) x ≡ over.source → ⊥)
      → net_role_at (as_module (flattened (made_of m is))) (number (numbering (leafed_module s.scene) k.first k.own) x)
      ≡ moved_net_role (numbering (leafed_module s.scene) k.first k.own) k.array (net_role_at (leafed_module s.scene) x)
  copy_net_role x lt none =
      let whole = as_module (flattened (made_of m is)) in
      let role : role_at whole (number n x) ≡ moved_role n k.array (role_at w x) =
      copy_role a.scenes (flattened (made_of m is)).leaves (all_modules t) ks k s x lt none in
      ap (net_role (net_types whole) (depth_at whole (number n x)) whole.body (number n x)) role
      ∙ role_renumbered n w refl (net_types whole) (net_types w) same_types k.array (depth_at whole (number n x)) (depth_at w x) x whole.body w.body
      (role_at w x) none (reads x lt)
      (λ may is_register. copy_driver c m is t a ks k s x lt may (net_types whole) (net_types w) same_types is_register)
