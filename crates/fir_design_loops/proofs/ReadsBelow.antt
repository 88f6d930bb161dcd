-- What the roles of a module's leaves read in the whole design is what those of its tree read by paths, behind the module's path.
use Rattle.std.proofs.Common.{◌≡◌, ℕ, List, [], ◌∷◌, ◌++◌, map, Option, Some, None, option_map, refl, ap, ap₂, ◌∙◌}
use Rattle.fir_meaning.specs.LeafPaths.{LeafPath}
use Rattle.fir_meaning.specs.SourceDependence.{PlacedModule, from_main}
use Rattle.fir_meaning.specs.SourceRoles as sources
use Rattle.fir_meaning.specs.SourceRoles.{PathNeed, SourceRole}
use Rattle.fir_meaning.specs.SourceCircuits.{role_within}
use Rattle.fir_meaning.specs.working.Dependence as over
use Rattle.fir_meaning.specs.working.LeafCircuits.{LeafCircuit}
use Rattle.fir_meaning.specs.working.LeafModules as role
use Rattle.fir_meaning.specs.working.LeafModules.{LeafModule, LeafReset, Need, Role}
use Rattle.fir_meaning.specs.working.LeafedModules.{leafed_module}
use Rattle.fir_meaning.specs.working.Numberings.{Numbering, moved_need, moved_reset, moved_role}
use Rattle.fir_meaning.specs.working.TermReads.{reads}
use Rattle.fir_leaf.specs.working.SoundDesigns.{circuit_path}
use Rattle.fir_leaf.proofs.MovedTerms.{Stands}
use Rattle.fir_design.proofs.InStep.{SameNeeds, SameRoleBelow}
use Rattle.fir_source_faults.specs.working.ReadsByPath.{path_in, paths_in}
use Rattle.fir_source_faults.proofs.RoleReads.{init_reads, path_inits, path_reads, reset_inits, role_reads}
use Rattle.fir_design_faults.proofs.AllTerms.{MayResetReads, RoleReads}
use Rattle.fir_design_faults.proofs.CircuitReads.{mapped_twice}
use Rattle.fir_design_faults.proofs.MovedReads.{reads_moved}
use Rattle.fir_design_faults.proofs.MovedRoles.{reset_moved}

pub within_inits : (r : SourceRole) → path_inits (role_within r) ≡ path_inits r
within_inits sources.source = refl
within_inits sources.sink = refl
within_inits (sources.computed scope e p) = refl
within_inits (sources.register scope clock reset p) = refl
within_inits (sources.reading p) = refl
within_inits (sources.pipe p clock kept) = refl

module _ (c : LeafCircuit) (h : PlacedModule) (n : Numbering) (k : ℕ) (st : Stands c.leaves n h.at k (leafed_module h.scene)) where
  abbrev m : LeafModule
  m = leafed_module h.scene

  abbrev inner : ℕ → LeafPath
  inner y = h.at ++ path_in h.scene y

  needs_below : (ns : List Need) (ps : List PathNeed) → SameNeeds c h.at ns ps
      → map (circuit_path c) (map (λ (x : Need). x.leaf) ns) ≡ from_main h.at (map (λ (x : PathNeed). x.leaf) ps)
  needs_below [] [] e = refl
  needs_below [] (p ∷ ps) e = absurd e
  needs_below (n ∷ ns) [] e = absurd e
  needs_below (n ∷ ns) (p ∷ ps) e = ap₂ (λ (q : LeafPath) (qs : List LeafPath). q ∷ qs) e.0.leaf (needs_below ns ps e.1)

  -- what is read within a tick
  pub reads_below : (array : ℕ) (r : Role) (q : SourceRole) → SameRoleBelow c h.at (moved_role n array r) q → RoleReads m r
      → paths_in h.scene (role_reads r) ≡ path_reads q → map (circuit_path c) (role_reads (moved_role n array r)) ≡ from_main h.at (path_reads q)
  reads_below array role.source sources.sink same sound e = refl
  reads_below array role.sink sources.sink same sound e = refl
  reads_below array (role.computed t) (sources.computed scope x p) same sound e =
      reads_moved n m st.ports (circuit_path c) inner st.path t sound ∙ mapped_twice h.scene h.at (reads t) ∙ ap (from_main h.at) e
  reads_below array (role.register x r) (sources.register scope clock reset p) same sound e =
      reset_moved n m st.ports (circuit_path c) inner st.path r sound.1 ∙ mapped_twice h.scene h.at (over.reset_reads r) ∙ ap (from_main h.at) e
  reads_below array (role.reading r) (sources.reading p) same sound e =
      ap₂ (λ (q : LeafPath) (qs : List LeafPath). q ∷ qs) same.address (needs_below (map (moved_need n) r.needs) p.needs same.needs)
  reads_below array (role.pipe r x u) (sources.pipe p clock kept) same sound e = refl
  reads_below array _ _ same sound e = absurd same

  -- and what an init reads
  reset_inits_below : (r : Option LeafReset) → MayResetReads m r
      → map (circuit_path c) (reset_inits (option_map (moved_reset n) r)) ≡ map inner (reset_inits r)
  reset_inits_below None sound = refl
  reset_inits_below (Some r) sound = reads_moved n m st.ports (circuit_path c) inner st.path r.init sound.init

  pub inits_below : (array : ℕ) (r : Role) (q : SourceRole) → SameRoleBelow c h.at (moved_role n array r) q → RoleReads m r
      → paths_in h.scene (init_reads r) ≡ path_inits q → map (circuit_path c) (init_reads (moved_role n array r)) ≡ from_main h.at (path_inits q)
  inits_below array role.source sources.sink same sound e = refl
  inits_below array role.sink sources.sink same sound e = refl
  inits_below array (role.computed t) (sources.computed scope x p) same sound e = refl
  inits_below array (role.register x r) (sources.register scope clock reset p) same sound e =
      reset_inits_below r sound.1 ∙ mapped_twice h.scene h.at (reset_inits r) ∙ ap (from_main h.at) e
  inits_below array (role.reading r) (sources.reading p) same sound e = refl
  inits_below array (role.pipe r x u) (sources.pipe p clock kept) same sound e = refl
  inits_below array _ _ same sound e = absurd same
