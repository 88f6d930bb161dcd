-- What the code has of a circuit: the number of its main module, the names of what each module declares, and its modules with their nets (FIRRTL spec,
-- "Circuits", "Modules").
use Rattle.std.specs.Prelude.{◌≡◌, ℕ, List, length, map, Option, Some, option_map, slice_get}
use Rattle.fir_ast.specs.Circuits.{CircuitTree, ModuleTree}
use Rattle.fir_leaf_text.specs.working.DeclaredNames.{names_in_module}
use Rattle.fir_meaning.specs.ModuleScenes.{Scene}
use Rattle.fir_meaning.specs.ResetJoins.{numbered_module}
use Rattle.fir_meaning.specs.Scenes.{IsSceneOf}
use Rattle.fir_flatten.specs.declared.design_net.ModulePart.{ModulePart}
use Rattle.fir_flatten.specs.working.DesignNets.{ArePartsOf}

-- that of the first module that has the circuit's name
abbrev pub number_of_main : CircuitTree → Option ℕ
number_of_main c = option_map (λ (m : ℕ × ModuleTree). m.0) (numbered_module 0 c.modules c.named.name)

-- by the numbers of the modules
abbrev pub names_by_modules : CircuitTree → List (List (List ℕ))
names_by_modules c = map names_in_module c.modules

-- a scene for each module, by their numbers
pub record HaveScenes (c : CircuitTree) (scenes : List Scene) : Type 0 where
  pub count : length scenes ≡ length c.modules
  pub each : (k : ℕ) (s : Scene) → slice_get scenes k ≡ Some s → IsSceneOf c k s

-- these are the modules with their nets, whichever scenes they have
abbrev pub HasParts : CircuitTree → List ModulePart → Type 0
HasParts c parts = (scenes : List Scene) → HaveScenes c scenes → ArePartsOf scenes parts
