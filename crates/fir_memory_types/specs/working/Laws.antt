-- The laws: memories have types, in each module of a circuit without faults of names, types or widths; the clocks of what reads and writes an array are those
-- of its memory's ports; and arrays stand in the order of their declarations (FIRRTL spec, "Memories").
use Rattle.std.specs.Prelude.{◌≡◌, ℕ, []}
use Rattle.fir_ast.specs.Circuits.{CircuitTree}
use Rattle.fir_meaning.specs.working.NameGroups.{HasNames}
use Rattle.fir_meaning.specs.TypeGroup.{type_faults}
use Rattle.fir_meaning.specs.OverFaults.{over_faults}
use Rattle.fir_meaning.specs.ModuleScenes.{Scene}
use Rattle.fir_meaning.specs.Scenes.{IsSceneOf}
use Rattle.fir_meaning.specs.working.LeafedModules.{leafed_module}
use Rattle.fir_memory_types.specs.working.TypedMemories.{AreArraysInOrder, AreMemoriesTyped, ClocksAreOfMemories}

abbrev pub LeafedMemoriesAreTyped : Type 0
LeafedMemoriesAreTyped =
    (c : CircuitTree) (module_number : ℕ) (s : Scene) → HasNames c → type_faults c ≡ [] → IsSceneOf c module_number s → over_faults c s.widths ≡ []
    → AreMemoriesTyped (leafed_module s).leaves (leafed_module s).arrays

-- with any widths
abbrev pub LeafedClocksAreOfMemories : Type 0
LeafedClocksAreOfMemories = (s : Scene) → ClocksAreOfMemories (leafed_module s)

abbrev pub LeafedArraysAreInOrder : Type 0
LeafedArraysAreInOrder = (s : Scene) → AreArraysInOrder (leafed_module s)
