use Rattle.std.proofs.Common.{None}
use Rattle.fir_inits.specs.working.Searched.{looks_left, IsMet, Keeps, Knows}
use Rattle.fir_inits.proofs.search.Search.finds.Given as goal

abbrev pub invariant-loop-number : goal.invariant-loop-number
invariant-loop-number l = record {
  knows : Knows l.net None l.self;
  keeps : Keeps l.fn.self l.self;
  met : IsMet l.self.met.items l.fn.register.init;
}

abbrev pub decreases-loop-number : goal.decreases-loop-number
decreases-loop-number l = looks_left l.self
