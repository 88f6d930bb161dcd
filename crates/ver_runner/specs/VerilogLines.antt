-- The lines of a Verilog tree on a trace.
-- A line has the outputs of a tick and, where it is shown, the state after it; where the order of the processes is that of a number, it ends with the number
-- of rounds that settled the tick.
use Rattle.std.specs.Prelude.{◌≡◌, ℕ, ◌+◌, List, [], ◌∷◌, ◌++◌, length, Bool, Option, Some, None, if◌then◌else◌}
use Rattle.fir_base.specs.Ticks.{Env, Tick, TickResult}
use Rattle.trace_text.specs.OutputLines.{line_text}
use Rattle.trace_text.specs.RunLines.{with_widths, run_text}
use Rattle.trace_text.specs.Shapes.{TraceShape}
use Rattle.trace_lines.specs.Saying.{Saying, SaysFront}
use Rattle.trace_lines.specs.Runs.{last_state}
use Rattle.trace_lines.specs.declared.simulation.Lack.{Lack}
use Rattle.ver_ast.specs.declared.tree.Verilog.{Verilog}
use Rattle.ver_ast.specs.Allows.{VRun}
use Rattle.ver_ast.specs.Nets.{output_nets, shape, variables, widths_of}
use Rattle.ver_ast.specs.Settled.{Rest}
use Rattle.ver_ast.specs.Stores.{store_of}
use Rattle.ver_order.specs.Rounds.{process_count}
use Rattle.ver_places.specs.ItemPlaces.{item_place}
use Rattle.ver_sim.specs.Lacking.{first_from, item_lacks}
use Rattle.ver_sim.specs.Start.{HasStart}
use Rattle.ver_runner.specs.Counting.{CountsTicks}
use Rattle.ver_runner.specs.Orders.{round_for}

-- a line that ends with a number of rounds
abbrev pub counted_text : List ℕ → List ℕ → Bool → TickResult → ℕ → List ℕ
counted_text outputs state with_state shown count =
    line_text (with_widths outputs shown.outputs) (if with_state then Some (with_widths state shown.state) else None) (Some count)

unfoldable pub counted_lines : List ℕ → List ℕ → Bool → List TickResult → List ℕ → List ℕ
counted_lines outputs state with_state (shown ∷ rest) (count ∷ counts) = counted_text outputs state with_state shown count ++ counted_lines outputs state with_state rest counts
counted_lines outputs state with_state _ _ = []

abbrev pub output_widths : Verilog → List ℕ
output_widths v = widths_of (output_nets v)

-- the numbers of rounds for that number of an order, from the values before the first tick on
pub record CountsRun (v : Verilog) (number : ℕ) (init : List ℕ) (ticks : List Tick) (shown : List TickResult) (counts : List ℕ) : Type 0 where
  pub start : Env
  pub has_start : HasStart v (store_of (variables v) init) start
  pub last : Env
  pub counts_each : CountsTicks v (round_for (process_count v) number) init start ticks shown counts last

-- the lines of a run, by an order of that number where there is one
abbrev pub PrintsLines : Verilog → Option ℕ → Bool → List ℕ → List Tick → List TickResult → List ℕ → Type 0
PrintsLines v None with_state init ticks shown printed = printed ≡ run_text (output_widths v) (shape v).state with_state shown
PrintsLines v (Some number) with_state init ticks shown printed =
    (counts : List ℕ) × CountsRun v number init ticks shown counts × (printed ≡ counted_lines (output_widths v) (shape v).state with_state shown counts)

-- the tree ran over what a trace says, and these are the lines
pub record VRan (v : Verilog) (order : Option ℕ) (with_state : Bool) (s : TraceShape) (says : Saying) (printed : List ℕ) : Type 0 where
  pub init : List ℕ
  pub ticks : List Tick
  pub said : says s init ticks
  pub shown : List TickResult
  pub run : VRun v init ticks shown
  pub lines : PrintsLines v order with_state init ticks shown printed

-- the tree ran over the ticks of a trace before one at which an item lacks a value, where all is at rest; of such items this is the first in the text
pub record VLacked (v : Verilog) (order : Option ℕ) (with_state : Bool) (s : TraceShape) (trace : List ℕ) (lack : Lack) (printed : List ℕ) : Type 0 where
  pub init : List ℕ
  pub ticks : List Tick
  pub tick : Tick
  pub said : SaysFront trace s init (ticks ++ tick ∷ [])
  pub shown : List TickResult
  pub run : VRun v init ticks shown
  pub lines : PrintsLines v order with_state init ticks shown printed
  pub env : Env
  pub rest : Rest v (last_state init shown) tick env
  pub item : ℕ
  pub lacks : first_from (item_lacks v (store_of (variables v) (last_state init shown)) tick.clocks env) 0 v.items ≡ Some item
  pub line : lack.line ≡ (item_place v item).line
  pub col : lack.col ≡ (item_place v item).col
  pub number : lack.tick ≡ length ticks + 1
