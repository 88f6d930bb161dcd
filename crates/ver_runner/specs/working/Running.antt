-- How far a simulation of a tree has come.
-- A line is made for each tick that was read; a run over the ticks stands behind the lines.
use Rattle.std.specs.Prelude.{◌≡◌, ℕ, ◌≤◌, List, [], length, Bool, Option, Some, None, Result, Ok, Err, option_map}
use Rattle.fir_base.specs.Ticks.{Env, Tick, TickResult, FitEach}
use Rattle.fir_base.specs.declared.refused.Refused.{Refused}
use Rattle.fir_base.specs.declared.refused.Refused.TheVariants.{Fault, Memory}
use Rattle.trace_text.specs.declared.fault.TraceFault.{TraceFault}
use Rattle.trace_text.specs.BadLine.{BadLine}
use Rattle.trace_text.specs.RunLines.{run_text}
use Rattle.trace_text.specs.Shapes.{TraceShape, plain}
use Rattle.trace_text.specs.working.Rooms.{HasRoom}
use Rattle.trace_text.specs.working.Steps.{IsReadTo}
use Rattle.trace_lines.specs.Runs.{last_state}
use Rattle.trace_lines.specs.Saying.{Saying}
use Rattle.trace_lines.specs.declared.simulation.Lack.{Lack}
use Rattle.ver_ast.specs.declared.tree.Verilog.{Verilog}
use Rattle.ver_ast.specs.Allows.{VRun}
use Rattle.ver_ast.specs.Nets.{shape, variables}
use Rattle.ver_ast.specs.Stores.{store_of}
use Rattle.ver_ast.specs.Valid.{Valid}
use Rattle.ver_order.specs.Rounds.{process_count}
use Rattle.ver_sim.specs.Start.{HasStart}
use Rattle.ver_sim.specs.working.Views.{shown_env}
use Rattle.ver_runner.specs.declared.runner.Order.{Order}
use Rattle.ver_runner.specs.declared.runner.VRunner.{VRunner}
use Rattle.ver_runner.specs.Counting.{CountsTick, CountsTicks}
use Rattle.ver_runner.specs.Orders.{round_for}
use Rattle.ver_runner.specs.VerilogLines.{counted_lines, output_widths, VRan, VLacked}
use Rattle.ver_runner.specs.working.Rooms.{IsRoomFor}

-- what is simulated: a tree, with the number of an order of its processes where there is one, and whether the state is shown
pub record Simulated : Type 0 where
  pub tree : Verilog
  pub order : Option ℕ
  pub with_state : Bool
  pub shape : TraceShape

abbrev pub numbered : Order → ℕ
numbered o = o.number

abbrev pub simulated_by : VRunner → Simulated
simulated_by r = record { tree = r.sim.tree; order = option_map numbered r.order; with_state = r.shown.with_state; shape = r.shape }

abbrev pub Ran : Simulated → Saying → List ℕ → Type 0
Ran s says printed = VRan s.tree s.order s.with_state s.shape says printed

abbrev pub Lacked : Simulated → List ℕ → Lack → List ℕ → Type 0
Lacked s trace lack printed = VLacked s.tree s.order s.with_state s.shape trace lack printed

-- the order of that number
abbrev pub IsOrderOf : Verilog → Option Order → Type 0
IsOrderOf v None = Unit {0}
IsOrderOf v (Some o) = o.round.items ≡ round_for (process_count v) o.number

-- the parts of a runner fit one another and the trace
pub record IsReady (trace : List ℕ) (r : VRunner) : Type 0 where
  pub valid : Valid r.sim.tree
  pub of_tree : plain r.shape ≡ shape r.sim.tree
  pub state_fits : FitEach (shape r.sim.tree).state r.sim.state
  pub order_is : IsOrderOf r.sim.tree r.order
  pub tick_room : HasRoom r.shape r.tick
  pub line_room : IsRoomFor r.sim.tree r.shown
  pub counted : r.ticks ≤ r.at
  pub place : r.at ≤ length trace

-- the numbers of rounds up to the values that the nets have
pub record CountsTo (v : Verilog) (round : List ℕ) (init : List ℕ) (ticks : List Tick) (shown : List TickResult) (counts : List ℕ) (env : Env) : Type 0 where
  pub start : Env
  pub has_start : HasStart v (store_of (variables v) init) start
  pub counts_each : CountsTicks v round init start ticks shown counts env

-- these are the lines, up to the values that the nets have
abbrev pub LinesTo : Verilog → Option ℕ → Bool → List ℕ → List Tick → List TickResult → Env → List ℕ → Type 0
LinesTo v None with_state init ticks shown env printed = printed ≡ run_text (output_widths v) (shape v).state with_state shown
LinesTo v (Some number) with_state init ticks shown env printed =
    (counts : List ℕ) × CountsTo v (round_for (process_count v) number) init ticks shown counts env
    × (printed ≡ counted_lines (output_widths v) (shape v).state with_state shown counts)

-- the trace is read up to the place, and these lines are made
pub record HasMade (trace : List ℕ) (r : VRunner) (printed : List ℕ) : Type 0 where
  pub init : List ℕ
  pub ticks : List Tick
  pub shown : List TickResult
  pub read : IsReadTo trace r.shape init ticks r.at
  pub run : VRun r.sim.tree init ticks shown
  pub state : r.sim.state ≡ last_state init shown
  pub lines : LinesTo r.sim.tree (option_map numbered r.order) r.shown.with_state init ticks shown (shown_env r.sim) printed
  pub count : r.ticks ≡ length ticks

-- where the processes have an order, the tick took so many rounds of it
abbrev pub CountsBy : Verilog → Option Order → List ℕ → Tick → Env → Option ℕ → List ℕ → Env → Type 0
CountsBy v None state tick before None next after = Unit {0}
CountsBy v (Some o) state tick before (Some count) next after = CountsTick v o.round.items state tick before count next after
CountsBy v _ state tick before _ next after = ⊥

-- what comes of a runner that is to begin
abbrev pub Begins : List ℕ → Simulated → Result VRunner (Refused TraceFault) → Type 0
Begins trace s (Ok r) = IsReady trace r × (simulated_by r ≡ s) × HasMade trace r []
Begins trace s (Err (Fault fault)) = (init : List ℕ) × BadLine trace s.shape init [] fault
Begins trace s (Err Memory) = Unit {0}
