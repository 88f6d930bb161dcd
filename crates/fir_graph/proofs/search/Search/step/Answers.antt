use Rattle.std.proofs.Common.{refl, arith}
use Rattle.fir_graph.proofs.SearchSteps.{step_finishes, step_enters, step_advances, step_closes}
use Rattle.fir_graph.proofs.search.Search.step.Goals as goal

pub get-requires-in-Some : goal.get-requires-in-Some
get-requires-in-Some g c = omega (arith, c.in-Some.ensures.within, c.requires.knows.covers)

pub enter-requires : goal.enter-requires
enter-requires g c = omega (arith, c.in-Some.ensures.within, c.requires.knows.covers)

pub returns-in_ok-finish-in-None-clause-ok : goal.returns-in_ok-finish-in-None-clause-ok
returns-in_ok-finish-in-None-clause-ok g c =
    step_finishes _ _ c.args.self.now _ _ c.requires.knows c.requires.last c.in-Open.ensures _ c.in-None.ensures.found c.in_ok-finish-in-None.ensures

pub returns-in_ok-enter-in-New-clause-ok : goal.returns-in_ok-enter-in-New-clause-ok
returns-in_ok-enter-in-New-clause-ok g c =
    step_enters _ _ c.args.self.now _ _ c.requires.knows c.requires.last c.in-Open.ensures _ _ c.in-Some.ensures.found c.in-New.ensures c.in_ok-enter-in-New.ensures

pub returns-in_ok-circle_from-in-Open-get-clause-fault : goal.returns-in_ok-circle_from-in-Open-get-clause-fault
returns-in_ok-circle_from-in-Open-get-clause-fault g c =
    step_closes _ _ c.args.self.now _ _ c.requires.knows c.requires.last c.in-Open.ensures _ _ c.in-Some.ensures.found c.in_ok-circle_from-in-Open-get.ensures

pub returns-in-Done-clause-ok : goal.returns-in-Done-clause-ok
returns-in-Done-clause-ok g c =
    step_advances _ _ c.args.self.now _ _ c.requires.knows c.requires.last c.in-Open.ensures _ _ c.in-Some.ensures.found c.in-Done.ensures c.set.ensures refl refl
