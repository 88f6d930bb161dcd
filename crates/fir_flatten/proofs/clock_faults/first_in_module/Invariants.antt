use Rattle.std.proofs.Common.{◌≡◌, List, Some, slice_get}
use Rattle.fir_meaning.specs.ModuleScenes.{Scene}
use Rattle.fir_meaning.specs.working.LeafedModules.{leafed_module}
use Rattle.fir_elaborate.specs.declared.elaborated.ModuleCopy.{ModuleCopy as CopyOfCode}
use Rattle.fir_flatten.specs.working.DesignNets.{IsPartOf}
use Rattle.fir_flatten.specs.working.FirstSites.{IsFirstAhead}
use Rattle.fir_flatten.proofs.clock_faults.first_in_module.Given as goal

abbrev pub invariant-loop-leaf : goal.invariant-loop-leaf
invariant-loop-leaf l =
    (scenes : List Scene) (copies : List CopyOfCode) (k : CopyOfCode) (s : Scene) → slice_get copies l.copy ≡ Some k
    → slice_get scenes k.module_number ≡ Some s → IsPartOf (leafed_module s) l.module → IsFirstAhead scenes copies l.copy 0 l.fn.found
    → IsFirstAhead scenes copies l.copy l.leaf l.first
