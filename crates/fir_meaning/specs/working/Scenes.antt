-- A circuit each of whose modules has a scene (FIRRTL spec, "Width Inference", "Reset Inference").
use Rattle.std.specs.Prelude.{ℕ, ◌<◌, length}
use Rattle.fir_ast.specs.Circuits.{CircuitTree}
use Rattle.fir_meaning.specs.ModuleScenes.{Scene}
use Rattle.fir_meaning.specs.Scenes.{IsSceneOf}

-- each module has a scene
abbrev pub HasScenes : CircuitTree → Type 0
HasScenes c = (module_number : ℕ) → module_number < length c.modules → (s : Scene) × IsSceneOf c module_number s
