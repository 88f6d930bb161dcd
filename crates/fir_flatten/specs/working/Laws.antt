-- A circuit means what the flat net of its design means (FIRRTL spec, "Circuits", "Modules", "Instances").
use Rattle.std.specs.Prelude.{◌≡◌, ℕ, List, [], Some, slice_get}
use Rattle.fir_base.specs.Lists.{In}
use Rattle.fir_ast.specs.declared.fault.FirFault.{FirFault}
use Rattle.fir_ast.specs.Circuits.{CircuitTree}
use Rattle.fir_ast.specs.Faults.{Fault}
use Rattle.fir_ast.specs.working.CodeFaults.{fault_of}
use Rattle.fir_pass.specs.Groups.{IsClear}
use Rattle.fir_meaning.specs.Elaborated.{HasMain}
use Rattle.fir_meaning.specs.ModuleScenes.{Scene}
use Rattle.fir_meaning.specs.SourceInits.{init_group}
use Rattle.fir_meaning.specs.TypeGroup.{type_faults}
use Rattle.fir_meaning.specs.working.Designs.{Design}
use Rattle.fir_meaning.specs.working.Flattened.{flattened}
use Rattle.fir_meaning.specs.working.LeafedModules.{leafed_module}
use Rattle.fir_meaning.specs.working.NameGroups.{HasNames}
use Rattle.fir_meaning.specs.Scenes.{IsSceneOf}
use Rattle.fir_meaning.specs.working.Scenes.{HasScenes}
use Rattle.fir_meaning.specs.working.UndrivenLeaves.{AreDriven}
use Rattle.fir_design.specs.working.CircuitDesigns.{IsSoundDesign}
use Rattle.fir_leaf.specs.working.ClockFaults.{ShowsClockFault}
use Rattle.fir_leaf_types.specs.working.TypedModules.{IsModuleTyped}
use Rattle.fir_memory_types.specs.working.TypedMemories.{AreMemoriesTyped}
use Rattle.fir_memory_clocks.specs.working.ModuleMemories.{HasOneClocks as AreMemoriesOnOneClock}
use Rattle.fir_names.specs.working.ModuleOrder.{IsModuleOrder}
use Rattle.fir_net.specs.declared.net.FlatNet.{FlatNet}
use Rattle.fir_net.specs.working.IsWritable.{HasConstantInits, HasOneClocks}
use Rattle.fir_elaborate.specs.declared.elaborated.Elaborated.{Elaborated}
use Rattle.fir_elaborate.specs.declared.elaborated.ModuleCopy.{ModuleCopy}
use Rattle.fir_elaborate.specs.working.Elaborations.{IsElaborated}
use Rattle.fir_inits.specs.working.ShowsInit.{ShowsInit}
use Rattle.fir_flatten.specs.working.FlatDesigns.{IsFlatDesign, IsPlainDesign}
use Rattle.fir_flatten.specs.working.FlattensTo.{IsFlatNetOf}

-- a circuit whose modules have these scenes, without a fault of names or types, of whose design this is the one over ground leaves
pub record IsDesigned (c : CircuitTree) (scenes : List Scene) (main : Scene) (d : Design) : Type 0 where
  pub names : HasNames c
  pub types : type_faults c ≡ []
  pub all_scenes : HasScenes c
  pub order : List ℕ
  pub in_order : IsModuleOrder c order
  pub has : HasMain c scenes main
  pub among : In scenes main
  pub sound : IsSoundDesign scenes main d

-- each module has types, also of its memories, and is driven; and no clock of the design is unclear
pub record IsClearDesign (scenes : List Scene) (d : Design) : Type 0 where
  pub typed : (s : Scene) → In scenes s → IsModuleTyped (leafed_module s)
  pub driven : (s : Scene) → In scenes s → AreDriven (leafed_module s)
  pub memories : (s : Scene) → In scenes s → AreMemoriesTyped (leafed_module s).leaves (leafed_module s).arrays
  pub clear : (f : Fault) → ShowsClockFault (flattened d) f → ⊥

-- then its circuit is plain
abbrev pub DesignsArePlain : Type 0
DesignsArePlain =
    (c : CircuitTree) (scenes : List Scene) (main : Scene) (d : Design) → IsDesigned c scenes main d → IsClearDesign scenes d
    → IsPlainDesign (flattened d) (leafed_module main).port_leaves

-- in each module of the copies of a design all ports of a memory that have a clock have the same
abbrev pub IsEachOnOneClock : CircuitTree → List ModuleCopy → Type 0
IsEachOnOneClock c copies = (k : ModuleCopy) (s : Scene) → In copies k → IsSceneOf c k.module_number s → AreMemoriesOnOneClock (leafed_module s)

-- where it is so, all ports of each array of the flat net that have a clock have the same
abbrev pub DesignsHaveOneClocks : Type 0
DesignsHaveOneClocks =
    (c : CircuitTree) (scenes : List Scene) (main : Scene) (d : Design) (net : FlatNet) (e : Elaborated) (x : ℕ) → IsDesigned c scenes main d
    → IsClearDesign scenes d → slice_get scenes x ≡ Some main → IsElaborated x d e → IsEachOnOneClock c e.copies.items
    → IsFlatDesign (flattened d) (leafed_module main).port_leaves net → HasOneClocks net

-- and the flat net of the design, whose inits are constants, is that of the circuit, and has its counts
abbrev pub DesignsFlatten : Type 0
DesignsFlatten =
    (c : CircuitTree) (scenes : List Scene) (main : Scene) (d : Design) (net : FlatNet) → IsDesigned c scenes main d → IsClearDesign scenes d
    → IsFlatDesign (flattened d) (leafed_module main).port_leaves net → net.name ≡ c.named.name → HasConstantInits net → HasOneClocks net
    → IsFlatNetOf c net

-- an init that is no constant stands in the net exactly where it stands in the circuit (FIRRTL spec, "Registers")
pub record HasInitsOf (c : CircuitTree) (net : FlatNet) : Type 0 where
  pub shows : (f : FirFault) → ShowsInit net f → (init_group c).shows (fault_of f)
  pub clear : HasConstantInits net → IsClear (init_group c)

abbrev pub DesignsTellInits : Type 0
DesignsTellInits =
    (c : CircuitTree) (scenes : List Scene) (main : Scene) (d : Design) (net : FlatNet) → IsDesigned c scenes main d → IsClearDesign scenes d
    → IsFlatDesign (flattened d) (leafed_module main).port_leaves net → HasInitsOf c net
