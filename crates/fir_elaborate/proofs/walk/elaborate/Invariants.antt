use Rattle.std.proofs.Common.{map}
use Rattle.fir_elaborate.specs.working.Walks.{IsUnderWay}
use Rattle.fir_elaborate.proofs.walk.elaborate.Given as goal

abbrev pub invariant-loop : goal.invariant-loop
invariant-loop l = IsUnderWay l.modules (map (λ ns. ns.items) l.names) l.main l.walk
