-- The leaves of what a module declares, and their texts behind others (FIRRTL spec, "Modules", "References").
use Rattle.std.specs.Prelude.{◌≡◌, ℕ, List, ◌∷◌, ◌++◌, Some, slice_get}
use Rattle.fir_ast.specs.Circuits.{CircuitTree, ModuleTree}
use Rattle.fir_meaning.specs.ComponentTypes.{typed_scope}
use Rattle.fir_meaning.specs.FoundTypes.{leaves_of_data}
use Rattle.fir_meaning.specs.LeafPaths.{LeafPath, named, path_text}
use Rattle.fir_meaning.specs.TypedScopes.{Known}
use Rattle.fir_meaning.specs.Visibility.{declarations}
use Rattle.fir_leaf_text.specs.working.TypePaths.{paths_of}

-- the path is that of the leaf of a number of what is declared behind so many others in the module of a number
pub record IsDeclaredLeaf (c : CircuitTree) (module_number position number : ℕ) (path : LeafPath) : Type 0 where
  pub inside : ModuleTree
  pub known : Known
  pub steps : LeafPath
  pub is_module : slice_get c.modules module_number ≡ Some inside
  pub is_known : slice_get (typed_scope c.modules (declarations inside)) position ≡ Some known
  pub among : slice_get (paths_of (leaves_of_data known.data_type)) number ≡ Some steps
  pub begins : path ≡ named known.name ∷ steps

-- its text stands behind what stood there
abbrev pub WritesDeclaredLeaf : CircuitTree → ℕ → ℕ → ℕ → List ℕ → List ℕ → Type 0
WritesDeclaredLeaf c module_number position number old new =
    (path : LeafPath) → IsDeclaredLeaf c module_number position number path → new ≡ old ++ path_text path
