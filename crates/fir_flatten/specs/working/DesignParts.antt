-- What the code has of a circuit when it makes the flat net: the design below the main module, the names of what each module declares, the modules with their
-- nets, and the copies of the modules in the design (FIRRTL spec, "Circuits", "Modules", "Instances").
use Rattle.std.specs.Prelude.{◌≡◌, ℕ, List, map, Some, slice_get}
use Rattle.fir_ast.specs.Circuits.{CircuitTree}
use Rattle.fir_elaborate.specs.working.Elaborations.{IsElaborated}
use Rattle.fir_meaning.specs.ModuleScenes.{Scene}
use Rattle.fir_meaning.specs.Scenes.{IsSceneOf}
use Rattle.fir_meaning.specs.working.Designs.{Design}
use Rattle.fir_meaning.specs.working.LeafedModules.{leafed_module}
use Rattle.fir_memory_types.specs.working.TypedMemories.{AreMemoriesTyped}
use Rattle.fir_whens.specs.working.ModuleFaults.{AreAllDriven}
use Rattle.fir_whens.specs.working.ModuleNets.{AreAllTyped}
use Rattle.fir_flatten.specs.declared.design_parts.DesignParts.{DesignParts}
use Rattle.fir_flatten.specs.working.CircuitParts.{HasParts, names_by_modules, number_of_main}
use Rattle.fir_flatten.specs.working.Laws.{IsDesigned}

-- the design, with the number of its main module
pub record HasDesign (c : CircuitTree) : Type 0 where
  pub scenes : List Scene
  pub main : Scene
  pub design : Design
  pub designed : IsDesigned c scenes main design
  pub number : ℕ
  pub number_is : number_of_main c ≡ Some number
  pub at : slice_get scenes number ≡ Some main

-- each module of a circuit has types of its memories
abbrev pub AreAllMemoriesTyped : CircuitTree → Type 0
AreAllMemoriesTyped c = (k : ℕ) (s : Scene) → IsSceneOf c k s → AreMemoriesTyped (leafed_module s).leaves (leafed_module s).arrays

pub record AreDesignParts (c : CircuitTree) (p : DesignParts) : Type 0 where
  pub design : HasDesign c
  pub typed : AreAllTyped c
  pub driven : AreAllDriven c
  pub named : map (λ ns. ns.items) p.names.items ≡ names_by_modules c
  pub parts : HasParts c p.modules.items
  pub elaborated : IsElaborated design.number design.design p.elaborated
