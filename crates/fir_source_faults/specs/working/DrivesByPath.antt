-- Which drives of a leaf are live under some choice, and which choices leave it undriven, is over the numbered leaves of a module what it is by paths
-- (FIRRTL spec, "Last Connect Semantics", "Initialization of Components").
use Rattle.std.specs.Prelude.{◌≡◌, ℕ, ◌<◌, [], length}
use Rattle.fir_base.specs.Lists.{In}
use Rattle.fir_ast.specs.Circuits.{CircuitTree}
use Rattle.fir_meaning.specs.working.Choices as over
use Rattle.fir_meaning.specs.working.Choices.{Live}
use Rattle.fir_meaning.specs.working.LeafModules.{depth_at}
use Rattle.fir_meaning.specs.ModuleScenes.{Scene}
use Rattle.fir_meaning.specs.working.LeafedModules.{leafed_module, module_leaves}
use Rattle.fir_meaning.specs.working.NameGroups.{HasNames}
use Rattle.fir_meaning.specs.SizedDeclarations.{numbered_modules}
use Rattle.fir_meaning.specs.SourceChoices.{Choice, IsLive, live_reads}
use Rattle.fir_meaning.specs.SourceDrives.{Drive, module_drives}
use Rattle.fir_meaning.specs.SourceFacts.{source_depth}
use Rattle.fir_meaning.specs.SourceUndriven.{IsUndriven, told_all}
use Rattle.fir_meaning.specs.TypeGroup.{type_faults}
use Rattle.fir_meaning.specs.working.UndrivenChoices as numbered
use Rattle.fir_meaning.specs.Visits.{module_visits}
use Rattle.fir_source_faults.specs.working.ReadsByPath.{path_in, paths_in}

-- of the leaf of a number
module _ (s : Scene) (x : ℕ) where
  abbrev pub depth : ℕ
  depth = source_depth s (path_in s x)

  -- a live statement and a drive stand at one place, and read the same
  pub record SameLive (l : Live) (d : Drive) : Type 0 where
    pub place : l.place ≡ d.place
    pub reads : paths_in s (over.live_reads l) ≡ live_reads depth (path_in s x) s d

  -- two choices leave the leaf undriven, and are told by the same outcomes
  pub record SameUndriven (f : over.Choice) (g : Choice) : Type 0 where
    pub by_number : numbered.IsUndriven (depth_at (leafed_module s) x) x (leafed_module s).body f
    pub by_path : IsUndriven s depth (path_in s x) (module_visits s.own.inside) g
    pub told : numbered.told_all (depth_at (leafed_module s) x) x (leafed_module s).body 0 f ≡ told_all s depth (path_in s x) (module_visits s.own.inside) g

  pub record DrivesByPath : Type 0 where
    pub same_depth : depth_at (leafed_module s) x ≡ depth
    pub live :
        (l : Live) → over.IsLive (depth_at (leafed_module s) x) x (leafed_module s).body l
        → (d : Drive) × IsLive depth (path_in s x) (module_drives s) d × SameLive l d
    pub live_back :
        (d : Drive) → IsLive depth (path_in s x) (module_drives s) d
        → (l : Live) × over.IsLive (depth_at (leafed_module s) x) x (leafed_module s).body l × SameLive l d
    pub undriven :
        (f : over.Choice) → numbered.IsUndriven (depth_at (leafed_module s) x) x (leafed_module s).body f → (g : Choice) × SameUndriven f g
    pub undriven_back :
        (g : Choice) → IsUndriven s depth (path_in s x) (module_visits s.own.inside) g → (f : over.Choice) × SameUndriven f g

-- of each leaf of each module of a circuit that shows no fault of names or types
abbrev pub ModulesDriveByPath : Type 0
ModulesDriveByPath =
    (c : CircuitTree) (s : Scene) (x : ℕ) → HasNames c → type_faults c ≡ [] → In (numbered_modules c) s.own → x < length (module_leaves s)
    → DrivesByPath s x
