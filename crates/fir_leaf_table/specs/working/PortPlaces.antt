-- Where the leaves of a module's ports stand, as those of an instance.
use Rattle.std.specs.Prelude.{◌≡◌, ℕ, List, ◌++◌, map, Option, Some, None}
use Rattle.fir_ast.specs.declared.place.Place.{Place}
use Rattle.fir_ast.specs.Circuits.{CircuitTree, ModuleTree, PortTree}
use Rattle.fir_ast.specs.Statements.{PlacedName}
use Rattle.fir_ast.specs.Types.{DataType}
use Rattle.fir_meaning.specs.Components.{instance}
use Rattle.fir_meaning.specs.ResetJoins.{numbered_module}
use Rattle.fir_meaning.specs.Visibility.{Before}
use Rattle.fir_types.specs.declared.found.Found.{Found}
use Rattle.fir_types.specs.working.Seen.{seen}
use Rattle.fir_meaning.specs.ModuleScenes.{Scene}
use Rattle.fir_leaf_table.specs.declared.frame.Frame.{Frame}
use Rattle.fir_leaf_table.specs.working.Frames.{Frames, IsDeclaredAt}
use Rattle.fir_leaf_table.specs.working.ModulePlaces.{places_of}

-- the types that are found begin with those of the ports
abbrev pub HaveTypes : List DataType → List PortTree → List (Option Found) → Type 0
HaveTypes ts ps found = (rest : List (Option DataType)) × (map (seen ts) found ≡ map (λ p. Some p.data_type) ps ++ rest)

-- of the instance behind so many declarations, if one is there
abbrev pub IsNumberOf : Option ℕ → Option (ℕ × ModuleTree) → Type 0
IsNumberOf (Some number) (Some child) = number ≡ child.0
IsNumberOf _ _ = ⊥

abbrev pub IsModuleNumber : Frame → ℕ → Option ℕ → Type 0
IsModuleNumber frame position number =
    (c : CircuitTree) (s : Scene) (before : Before) (n : PlacedName) (name : List ℕ)
    → Frames frame c s → IsDeclaredAt s before n (instance name) position → IsNumberOf number (numbered_module 0 c.modules name)

abbrev pub AreThose : List Place → Option (ℕ × ModuleTree) → Type 0
AreThose places None = ⊥
AreThose places (Some child) = places ≡ places_of child.1.ports

abbrev pub ArePortPlaces : Frame → ℕ → List Place → Type 0
ArePortPlaces frame position places =
    (c : CircuitTree) (s : Scene) (before : Before) (n : PlacedName) (name : List ℕ)
    → Frames frame c s → IsDeclaredAt s before n (instance name) position → AreThose places (numbered_module 0 c.modules name)
