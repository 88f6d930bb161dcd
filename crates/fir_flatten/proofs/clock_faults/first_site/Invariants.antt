use Rattle.std.proofs.Common.{List}
use Rattle.fir_meaning.specs.ModuleScenes.{Scene}
use Rattle.fir_flatten.specs.working.DesignNets.{ArePartsOf}
use Rattle.fir_flatten.specs.working.FirstSites.{IsFirstAhead}
use Rattle.fir_flatten.proofs.clock_faults.first_site.Given as goal

abbrev pub invariant-loop-number : goal.invariant-loop-number
invariant-loop-number l = (scenes : List Scene) → ArePartsOf scenes l.modules → IsFirstAhead scenes l.copies l.number 0 l.first
