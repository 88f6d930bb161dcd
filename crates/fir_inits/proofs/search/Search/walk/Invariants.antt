use Rattle.fir_inits.proofs.Walking.{IsBack}
use Rattle.fir_inits.proofs.search.Search.walk.Given as goal

abbrev pub invariant-way : goal.invariant-way
invariant-way l = IsBack l.net l.self l.number l.walk.items

abbrev pub decreases-way : goal.decreases-way
decreases-way l = l.number
