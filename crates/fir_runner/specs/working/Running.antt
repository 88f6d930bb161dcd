-- How far a simulation of a net has come.
-- A line is made for each tick that was read; a run over the ticks stands behind the lines.
use Rattle.std.specs.Prelude.{◌≡◌, ℕ, ◌≤◌, List, [], length, Bool, Result, Ok, Err}
use Rattle.fir_base.specs.Ticks.{Tick, TickResult, IsRun}
use Rattle.fir_base.specs.declared.refused.Refused.{Refused}
use Rattle.fir_base.specs.declared.refused.Refused.TheVariants.{Fault, Memory}
use Rattle.fir_net.specs.declared.net.FlatNet.{FlatNet}
use Rattle.fir_net.specs.working.Settled.{shape}
use Rattle.fir_net.specs.working.Allows.{Allows}
use Rattle.trace_text.specs.declared.fault.TraceFault.{TraceFault}
use Rattle.trace_text.specs.Shapes.{TraceShape, plain}
use Rattle.trace_text.specs.working.Rooms.{HasRoom}
use Rattle.trace_text.specs.BadLine.{BadLine}
use Rattle.trace_text.specs.RunLines.{run_text}
use Rattle.trace_text.specs.working.Steps.{IsReadTo}
use Rattle.trace_lines.specs.Runs.{last_state}
use Rattle.trace_lines.specs.Saying.{Saying}
use Rattle.fir_tick.specs.working.Views.{numbers, output_widths}
use Rattle.fir_runner.specs.declared.runner.Runner.{Runner}

-- a net, the shape of its traces, and whether its state is shown
pub record SimulatedNet : Type 0 where
  pub net : FlatNet
  pub shape : TraceShape
  pub with_state : Bool

abbrev pub simulated_by : Runner → SimulatedNet
simulated_by r = record { net = r.sim.net; shape = r.shape; with_state = r.with_state }

-- the net ran over what a trace says, and these are the lines
pub record Ran (a : SimulatedNet) (says : Saying) (printed : List ℕ) : Type 0 where
  pub init : List ℕ
  pub ticks : List Tick
  pub said : says a.shape init ticks
  pub shown : List TickResult
  pub run : IsRun (Allows a.net) init ticks shown
  pub lines : printed ≡ run_text (output_widths a.net) (shape a.net).state a.with_state shown

-- the parts of a runner fit one another and the trace
pub record IsReady (trace : List ℕ) (r : Runner) : Type 0 where
  pub of_net : plain r.shape ≡ shape r.sim.net
  pub room : HasRoom r.shape r.tick
  pub place : r.at ≤ length trace

-- the runner has read the trace up to its place and made these lines
pub record IsRunning (trace : List ℕ) (r : Runner) (printed : List ℕ) : Type 0 where
  pub init : List ℕ
  pub ticks : List Tick
  pub shown : List TickResult
  pub read : IsReadTo trace r.shape init ticks r.at
  pub run : IsRun (Allows r.sim.net) init ticks shown
  pub state : numbers r.sim.state ≡ last_state init shown
  pub lines : printed ≡ run_text (output_widths r.sim.net) (shape r.sim.net).state r.with_state shown

-- what comes of a runner that is to begin
abbrev pub Begins : List ℕ → SimulatedNet → Result Runner (Refused TraceFault) → Type 0
Begins trace a (Ok r) = IsReady trace r × (simulated_by r ≡ a) × IsRunning trace r []
Begins trace a (Err (Fault fault)) = (init : List ℕ) × BadLine trace a.shape init [] fault
Begins trace a (Err Memory) = Unit {0}
