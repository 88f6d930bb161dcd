-- What holds of each module of a design holds of its circuit: that it has types, and its memories, and that each leaf is driven that statements must drive
-- (FIRRTL spec, "Expressions", "Memories", "Initialization of Components", "Instances").
use Rattle.fir_base.specs.Lists.{In}
use Rattle.fir_ast.specs.Circuits.{CircuitTree}
use Rattle.fir_meaning.specs.ModuleScenes.{Scene}
use Rattle.fir_meaning.specs.SourceDesigns.{SourceDesign}
use Rattle.fir_meaning.specs.working.Designs.{Design}
use Rattle.fir_meaning.specs.working.Flattened.{flattened}
use Rattle.fir_meaning.specs.working.LeafModules.{LeafModule}
use Rattle.fir_meaning.specs.working.LeafedModules.{leafed_module}
use Rattle.fir_meaning.specs.working.UndrivenLeaves.{AreDriven}
use Rattle.fir_leaf_types.specs.working.TypedModules.{IsModuleTyped}
use Rattle.fir_memory_types.specs.working.TypedMemories.{AreMemoriesTyped}
use Rattle.fir_design.specs.working.MeaningLaws.{AreDesigns}
use Rattle.fir_connect.specs.working.CircuitModules.{as_module}
use Rattle.fir_copies.specs.working.CopyLaws.{HaveWidths}

-- so it is with each of these in every sound design of a circuit without a fault of names or types
abbrev pub HoldsOfDesigns : (LeafModule → Type 0) → Type 0
HoldsOfDesigns P =
    (c : CircuitTree) (d : Design) (t : SourceDesign) (a : AreDesigns c d t) → ((s : Scene) → In a.scenes s → P (leafed_module s))
    → P (as_module (flattened d))

-- types, where all modules have the circuit's widths
abbrev pub DesignsAreTyped : Type 0
DesignsAreTyped =
    (c : CircuitTree) (d : Design) (t : SourceDesign) (a : AreDesigns c d t) → HaveWidths c a.scenes
    → ((s : Scene) → In a.scenes s → IsModuleTyped (leafed_module s)) → IsModuleTyped (as_module (flattened d))

-- and the types of memories
abbrev pub DesignsHaveTypedMemories : Type 0
DesignsHaveTypedMemories =
    (c : CircuitTree) (d : Design) (t : SourceDesign) (a : AreDesigns c d t) → HaveWidths c a.scenes
    → ((s : Scene) → In a.scenes s → AreMemoriesTyped (leafed_module s).leaves (leafed_module s).arrays)
    → AreMemoriesTyped (flattened d).leaves (flattened d).arrays

abbrev pub DesignsAreDriven : Type 0
DesignsAreDriven = HoldsOfDesigns AreDriven
