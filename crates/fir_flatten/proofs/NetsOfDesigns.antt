-- The net that is made of the copies of the modules of a circuit's design is the net of the design.
use Rattle.std.proofs.Common.{◌≡◌, ℕ, List, slice_get, Some}
use Rattle.fir_base.specs.Lists.{In}
use Rattle.fir_ast.specs.Circuits.{CircuitTree}
use Rattle.fir_copies.specs.working.CopyLaws.{CopiesGiveAll, CopiesStand}
use Rattle.fir_design.specs.working.SourceLaws.{HasOneTree}
use Rattle.fir_elaborate.specs.declared.elaborated.Elaborated.{Elaborated}
use Rattle.fir_elaborate.specs.working.Elaborations.{IsElaborated}
use Rattle.fir_meaning.specs.ModuleScenes.{Scene}
use Rattle.fir_meaning.specs.working.Designs.{Design}
use Rattle.fir_memory_types.specs.working.TypedMemories.{AreMemoriesTyped}
use Rattle.fir_meaning.specs.working.Flattened.{flattened}
use Rattle.fir_meaning.specs.working.LeafedModules.{leafed_module}
use Rattle.fir_flatten.specs.declared.design_net.DesignNet.{DesignNet}
use Rattle.fir_flatten.specs.declared.design_net.ModulePart.{ModulePart}
use Rattle.fir_flatten.specs.working.CircuitParts.{HasParts}
use Rattle.fir_flatten.specs.working.DesignNets.{IsNetOfDesign, MakesDesign}
use Rattle.fir_flatten.specs.working.Laws.{IsDesigned}
use Rattle.fir_flatten.proofs.DesignCopies.{copies_of_design}
use Rattle.fir_flatten.proofs.DrivenCopies.{driven_alike}
use Rattle.fir_flatten.proofs.MainPorts.{port_no_register, port_source}
use Rattle.fir_flatten.proofs.ViewedModules.{have_scenes}

pub net_of_design : HasOneTree → CopiesStand → CopiesGiveAll → (c : CircuitTree) (scenes : List Scene) (main : Scene) (d : Design)
    → IsDesigned c scenes main d → ((s : Scene) → In scenes s → AreMemoriesTyped (leafed_module s).leaves (leafed_module s).arrays) → (x : ℕ) → slice_get scenes x ≡ Some main → (e : Elaborated) → IsElaborated x d e → (parts : List ModulePart)
    → HasParts c parts → (net : DesignNet) → MakesDesign parts e.copies.items net → IsNetOfDesign (flattened d) (leafed_module main).port_leaves net
net_of_design one all_stand give_all c scenes main d designed memories x at e elaborated parts have net makes =
    makes scenes main (flattened d) (have scenes (have_scenes c scenes main d designed))
    (copies_of_design one all_stand give_all c scenes main d designed x at e elaborated)
    (driven_alike one c scenes main d designed x at e elaborated) (port_no_register c scenes main d designed) (port_source c scenes main d designed)
    memories
