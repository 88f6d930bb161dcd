-- What a net printed on a trace, as `sim` says it of the text.
use Rattle.std.proofs.Common.{◌≡◌, ℕ, List, [], refl}
use Rattle.trace_text.specs.declared.fault.TraceFault.{TraceFault}
use Rattle.trace_text.specs.BadLine.{BadLine}
use Rattle.trace_text.specs.RunLines.{run_text}
use Rattle.trace_lines.specs.Saying.{Saying}
use Rattle.trace_command.proofs.LinedTicks.{ToldBadly}
use Rattle.fir_runner.specs.working.Running.{Ran, SimulatedNet}

-- no tick was run
pub none_ran : (a : SimulatedNet) (init : List ℕ) (says : Saying) → says a.shape init [] → Ran a says []
unfolding run_text
none_ran a init says said = record { init = init; ticks = []; said = said; shown = []; run = tt; lines = refl }

-- a bad line was met
pub told_badly : (a : SimulatedNet) (trace : List ℕ) (fault : TraceFault) (printed : List ℕ) → Ran a (λ s init ticks. BadLine trace s init ticks fault) printed
    → ToldBadly (Ran a) trace fault printed
told_badly a trace fault printed r = record {
  shape = a.shape;
  init = r.init;
  ticks = r.ticks;
  bad = r.said;
  told = record { init = r.init; ticks = r.ticks; said = (fault, r.said, refl); shown = r.shown; run = r.run; lines = r.lines };
}
