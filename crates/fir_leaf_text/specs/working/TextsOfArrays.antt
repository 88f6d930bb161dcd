-- The texts of the paths of the arrays of a module's memories, as lines print them (FIRRTL spec, "Memories", "References").
use Rattle.std.specs.Prelude.{◌≡◌, ℕ, List, [], ◌++◌, flat_map, map}
use Rattle.fir_ast.specs.Circuits.{CircuitTree}
use Rattle.fir_ast.specs.Statements.{MemoryPart, Statement, memory, when, Block, done, then}
use Rattle.fir_meaning.specs.FoundTypes.{leaves_of_data}
use Rattle.fir_meaning.specs.LeafPaths.{path_text}
use Rattle.fir_meaning.specs.MemoryTypes.{data_of_part, first_one}
use Rattle.fir_meaning.specs.ModuleScenes.{Scene}
use Rattle.fir_meaning.specs.Scenes.{IsSceneOf}
use Rattle.fir_meaning.specs.working.LeafModules.{LeafArray}
use Rattle.fir_meaning.specs.working.LeafedModules.{leafed_module}
use Rattle.fir_leaf_text.specs.working.TypePaths.{paths_of, texts_behind}

-- the texts are those of all arrays, in their order
abbrev pub AreArrayTextsOf : CircuitTree → ℕ → List (List ℕ) → Type 0
AreArrayTextsOf c module_number texts =
    (s : Scene) → IsSceneOf c module_number s → texts ≡ map (λ (a : LeafArray). path_text a.path) (leafed_module s).arrays

-- those of the arrays of a memory of that name: one for each leaf of its data
abbrev pub memory_texts : List ℕ → List MemoryPart → List (List ℕ)
memory_texts name parts = texts_behind name (paths_of (leaves_of_data (first_one (flat_map data_of_part parts))))

-- those of the memories of statements, in the order of the text
abbrev mutual
  pub array_texts_in : Statement → List (List ℕ)
  array_texts_in (memory p n parts) = memory_texts n.name parts
  array_texts_in (when p c a b) = array_texts_in_block a ++ array_texts_in_block b
  array_texts_in _ = []

  pub array_texts_in_block : Block → List (List ℕ)
  array_texts_in_block done = []
  array_texts_in_block ((then) x b) = array_texts_in x ++ array_texts_in_block b
