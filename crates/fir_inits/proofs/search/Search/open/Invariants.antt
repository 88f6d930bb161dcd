use Rattle.std.proofs.Common.{◌-◌, length}
use Rattle.fir_net.specs.working.Dependence.{reads_of}
use Rattle.fir_inits.proofs.Opening.{Opening}
use Rattle.fir_inits.proofs.search.Search.open.Given as goal

abbrev pub invariant-loop-target : goal.invariant-loop-target
invariant-loop-target l = Opening l.net l.fn.self l.self l.number l.read l.place

abbrev pub decreases-loop-target : goal.decreases-loop-target
decreases-loop-target l = length (reads_of l.net l.read) - l.place
