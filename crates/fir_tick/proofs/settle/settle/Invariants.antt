use Rattle.std.proofs.Common.{drop}
use Rattle.fir_tick.specs.working.Views.{numbers as words_of}
use Rattle.fir_tick.proofs.Settling.{Walk}
use Rattle.fir_tick.proofs.settle.settle.Given as goal

abbrev pub invariant-loop-step : goal.invariant-loop-step
invariant-loop-step l = Walk l.net (words_of l.state) l.initial.numbers l.numbers (drop l.step-index l.steps)
