use Rattle.std.proofs.Common.{List, flat_map, take}
use Rattle.fir_leaf.specs.working.ClockFaults.{live_places}
use Rattle.fir_meaning.specs.working.Choices.{Live}
use Rattle.fir_flatten.specs.working.FirstIndices.{IsFirstOf}
use Rattle.fir_flatten.specs.working.LiveSites.{AreSitesOf}
use Rattle.fir_flatten.proofs.clock_evidence.of_sites.Given as goal

abbrev pub invariant-loop-site : goal.invariant-loop-site
invariant-loop-site l = (ls : List Live) → AreSitesOf ls (take l.site-index l.sites) → IsFirstOf (flat_map live_places ls) l.index
