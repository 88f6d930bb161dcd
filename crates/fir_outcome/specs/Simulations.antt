-- What a simulation prints.
-- The circuit of a text runs from the initial state of a trace through its ticks, and each tick gives a line.
use Rattle.std.specs.Prelude.{◌≡◌, ℕ, List, Bool}
use Rattle.fir_base.specs.Ticks.{Tick, TickResult}
use Rattle.fir_ast.specs.Circuits.{CircuitTree}
use Rattle.fir_parse.specs.Spells.{Spells}
use Rattle.fir_meaning.specs.Elaborated.{IsSourceOf}
use Rattle.fir_meaning.specs.SourceCircuits.{source_shape}
use Rattle.fir_meaning.specs.SourceDesigns.{SourceDesign}
use Rattle.fir_meaning.specs.SourceOne.{One}
use Rattle.trace_text.specs.Shapes.{TraceShape}
use Rattle.trace_text.specs.RunLines.{run_text}
use Rattle.trace_lines.specs.Saying.{Saying}
use Rattle.fir_outcome.specs.Emits.{Takes}
use Rattle.fir_outcome.specs.Sources.{SourceRun, output_widths}
use Rattle.fir_outcome.specs.Traces.{IsTraceShape}

-- in a source these are the results of its one run from an initial state through ticks, and the lines that they give
pub record PrintsRun (t : SourceDesign) (with_state : Bool) (init : List ℕ) (ticks : List Tick) (shown : List TickResult) (printed : List ℕ) : Type 0 where
  pub one : One t
  pub run : SourceRun t init ticks shown
  pub only_run : (others : List TickResult) → SourceRun t init ticks others → others ≡ shown
  pub lines : printed ≡ run_text (output_widths t) (source_shape t).state with_state shown

-- the lines of the one run of the circuit over what a trace says
pub record Prints (text : List ℕ) (with_state : Bool) (Says : Saying) (printed : List ℕ) : Type 0 where
  pub circuit : CircuitTree
  pub taken : Takes text circuit
  pub only_circuit : (other : CircuitTree) → Spells text other → other ≡ circuit
  pub of_trace : TraceShape
  pub shaped : IsTraceShape circuit of_trace
  pub init : List ℕ
  pub ticks : List Tick
  pub said : Says of_trace init ticks
  pub shown : List TickResult
  -- the circuit has a source, and whichever it is, these are its results
  pub source : SourceDesign
  pub is_source : IsSourceOf circuit source
  pub prints : (t : SourceDesign) → IsSourceOf circuit t → PrintsRun t with_state init ticks shown printed
