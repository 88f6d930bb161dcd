-- Which registers of a module take a value at the edges of their clocks (FIRRTL spec, "Registers", "Last Connect Semantics"): those that some statement may
-- drive, under whatever choice, and those with a reset. The others hold what they show.
use Rattle.std.specs.Prelude.{Bool, true, false, ◌||◌, Option, Some, None}
use Rattle.std.specs.List.{list_any}
use Rattle.fir_meaning.specs.LeafPaths.{LeafPath}
use Rattle.fir_meaning.specs.ModuleScenes.{Scene}
use Rattle.fir_meaning.specs.SourceChoices.{has_path}
use Rattle.fir_meaning.specs.SourceDrives.{Drive, module_drives}
use Rattle.fir_meaning.specs.SourceRoles.{SourceLeaf, SourceReset, SourceRole, register}

abbrev pub has_reset : Option SourceReset → Bool
has_reset None = false
has_reset (Some r) = true

-- of a leaf with that role, where some statement may drive it or none
abbrev pub takes_by : Bool → SourceRole → Bool
takes_by is_driven (register scope clock reset q) = is_driven || has_reset reset
takes_by is_driven _ = false

module _ (s : Scene) where
  abbrev pub is_driven : LeafPath → Bool
  is_driven path = list_any (λ (d : Drive). has_path d.driven.leaves path) (module_drives s)

  abbrev pub takes_value : SourceLeaf → Bool
  takes_value l = takes_by (is_driven l.path) l.role
