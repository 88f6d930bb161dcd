-- The lines that a simulation has made are those of the ticks at the front of the trace.
use Rattle.std.specs.Prelude.{ℕ, List, Bool, Option, Some, None, option_map}
use Rattle.fir_base.specs.Ticks.{Env, Tick, TickResult}
use Rattle.trace_lines.specs.Saying.{SaysFront}
use Rattle.ver_ast.specs.declared.tree.Verilog.{Verilog}
use Rattle.ver_sim.specs.working.Views.{shown_env}
use Rattle.ver_runner.specs.declared.runner.VRunner.{VRunner}
use Rattle.ver_runner.specs.VerilogLines.{PrintsLines}
use Rattle.ver_runner.specs.working.Running.{HasMade, LinesTo, Ran, numbered, simulated_by}

-- the lines up to some values are lines of the run
pub lines_print : (v : Verilog) (order : Option ℕ) (with_state : Bool) (init : List ℕ) (ticks : List Tick) (shown : List TickResult) (env : Env) (printed : List ℕ)
    → LinesTo v order with_state init ticks shown env printed → PrintsLines v order with_state init ticks shown printed
lines_print v None with_state init ticks shown env printed h = h
lines_print v (Some number) with_state init ticks shown env printed h =
    (h.0, record { start = h.1.start; has_start = h.1.has_start; last = env; counts_each = h.1.counts_each }, h.2)

-- what was read up to a place stands at the front of the trace
pub front_ran : (trace : List ℕ) (r : VRunner) (printed : List ℕ) → HasMade trace r printed → Ran (simulated_by r) (SaysFront trace) printed
front_ran trace r printed h = record {
  init = h.init;
  ticks = h.ticks;
  said = (h.read.lines, h.read.lines_are, h.read.spelled);
  shown = h.shown;
  run = h.run;
  lines = lines_print r.sim.tree (option_map numbered r.order) r.shown.with_state h.init h.ticks h.shown (shown_env r.sim) printed h.lines;
}
