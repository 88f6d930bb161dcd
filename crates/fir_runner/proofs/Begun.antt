-- How a simulation begins: with the state that the init lines give, or not at all where one of them is bad.
use Rattle.std.proofs.Common.{◌≡◌, ℕ, List, [], refl, Err}
use Rattle.fir_base.specs.declared.refused.Refused.{Refused}
use Rattle.fir_base.specs.declared.refused.Refused.TheVariants.{Fault, Memory}
use Rattle.trace_text.specs.declared.fault.TraceFault.{TraceFault}
use Rattle.trace_text.specs.working.Readings.{InitsRead, ReadsInit}
use Rattle.trace_text.specs.working.Steps.{ReadsInSteps}
use Rattle.trace_text.specs.RunLines.{run_text}
use Rattle.trace_lines.specs.Runs.{last_state}
use Rattle.fir_tick.specs.working.Views.{numbers}
use Rattle.fir_runner.specs.declared.runner.Runner.{Runner}
use Rattle.fir_runner.specs.working.Running.{SimulatedNet, IsRunning, Begins}

pub begun : (trace : List ℕ) (r : Runner) (init : List ℕ) → ReadsInSteps trace r.shape → InitsRead trace r.shape init r.at → numbers r.sim.state ≡ init → IsRunning trace r []
unfolding last_state run_text
begun trace r init steps read state = record {
  init = init;
  ticks = [];
  shown = [];
  read = steps.begins init r.at read;
  run = tt;
  state = state;
  lines = refl;
}

pub not_begun : (trace : List ℕ) (a : SimulatedNet) → ReadsInSteps trace a.shape → (refused : Refused TraceFault) → ReadsInit trace a.shape (Err refused) → Begins trace a (Err refused)
not_begun trace a steps (Fault fault) bad = steps.init_is_bad fault bad
not_begun trace a steps Memory bad = tt
