-- How the number of a leaf is found: the place of its declaration, and step by step how many leaves stand before it.
use Rattle.std.specs.Prelude.{◌≡◌, ℕ, List, ◌∷◌, Option, Some, None, option_map}
use Rattle.fir_ast.specs.Types.{DataType}
use Rattle.fir_meaning.specs.LeafPaths.{LeafPath, Step}
use Rattle.fir_meaning.specs.TypedScopes.{TypedScope, known}
use Rattle.fir_type_table.specs.working.Saturated.{saturated}
use Rattle.fir_types.specs.declared.found.Found.{Found}
use Rattle.fir_types.specs.working.Notes.{position_of}
use Rattle.fir_types.specs.working.Seen.{found_type}
use Rattle.fir_reset.specs.working.LeafClasses.{behind_so_many, offset_in}

-- how many are declared before the first of a name, if it is declared
abbrev pub position_known : TypedScope → List ℕ → Option ℕ
position_known scope name = option_map (λ k. position_of scope name) (known scope name)

-- a step leads to a type, with so many leaves before those of it; or nowhere
abbrev pub StepsTo : List DataType → DataType → Step → Option (Found × ℕ) → Type 0
StepsTo ts t s None = (path : LeafPath) → offset_in t (s ∷ path) ≡ None
StepsTo ts t s (Some r) =
    (before : ℕ) × (r.1 ≡ saturated before) × ((path : LeafPath) → offset_in t (s ∷ path) ≡ behind_so_many before (offset_in (found_type ts r.0) path))
