-- The texts of the paths of the leaves of a module, as lines print them (FIRRTL spec, "References").
use Rattle.std.specs.Prelude.{◌≡◌, ℕ, ◌<◌, List, length, map}
use Rattle.fir_ast.specs.Circuits.{CircuitTree}
use Rattle.fir_meaning.specs.ModuleScenes.{Scene}
use Rattle.fir_meaning.specs.working.LeafedModules.{module_leaves}
use Rattle.fir_meaning.specs.FoundTypes.{leaves_of_data}
use Rattle.fir_meaning.specs.working.LeafModules.{LeafDeclared, leaf_at}
use Rattle.fir_meaning.specs.LeafPaths.{path_text}
use Rattle.fir_meaning.specs.Scenes.{IsSceneOf}
use Rattle.fir_types.specs.working.TypedModules.{type_declared}
use Rattle.fir_leaf_text.specs.working.TypePaths.{paths_of, texts_behind}

-- the text is that of the path of the leaf of a number
abbrev pub IsTextOf : CircuitTree → ℕ → ℕ → List ℕ → Type 0
IsTextOf c module_number leaf text =
    (s : Scene) → IsSceneOf c module_number s → leaf < length (module_leaves s) → text ≡ path_text (leaf_at (module_leaves s) leaf).path

-- the texts are those of all leaves, in their order
abbrev pub AreTextsOf : CircuitTree → ℕ → List (List ℕ) → Type 0
AreTextsOf c module_number texts =
    (s : Scene) → IsSceneOf c module_number s → texts ≡ map (λ (l : LeafDeclared). path_text l.path) (module_leaves s)

-- those of the leaves of what is declared under a name behind so many others in the module of a number
abbrev pub declared_texts : CircuitTree → ℕ → ℕ → List ℕ → List (List ℕ)
declared_texts c module_number position name = texts_behind name (paths_of (leaves_of_data (type_declared c module_number position)))
