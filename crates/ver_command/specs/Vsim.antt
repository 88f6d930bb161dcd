-- What the command `vsim` says of a Verilog text: for which line it is refused, and which lines its tree prints on a trace.
use Rattle.std.specs.Prelude.{◌≡◌, ℕ, List, Bool, Option}
use Rattle.fir_base.specs.Ticks.{Tick, TickResult}
use Rattle.trace_text.specs.Shapes.{TraceShape}
use Rattle.trace_lines.specs.declared.simulation.Lack.{Lack}
use Rattle.trace_lines.specs.Saying.{Saying, lack_line}
use Rattle.fir_cli.specs.declared.status.Status.TheVariants as status
use Rattle.trace_command.specs.Simulates.{SimulationMeaning}
use Rattle.ver_ast.specs.declared.tree.Verilog.{Verilog}
use Rattle.ver_ast.specs.Allows.{VRun}
use Rattle.ver_ast.specs.Spells.{VSpells}
use Rattle.ver_fault.specs.Faults.{VFault, vfault_line}
use Rattle.ver_read.specs.Reads.{IsTextOf, IsFaultOf}
use Rattle.ver_sim.specs.TraceShapes.{trace_shape}
use Rattle.ver_runner.specs.VerilogLines.{VRan, VLacked}

-- a text is refused for its first fault, by the line of it
abbrev pub VRefuses : List ℕ → List ℕ → Type 0
VRefuses text line = (f : VFault) × IsFaultOf text f × (line ≡ vfault_line f)

-- the lines of the one run of the one tree of a text, over what is said of a trace
pub record VPrints (with_state : Bool) (order : Option ℕ) (text : List ℕ) (says : Saying) (printed : List ℕ) : Type 0 where
  pub tree : Verilog
  pub taken : IsTextOf text tree
  pub only_tree : (other : Verilog) → VSpells text other → other ≡ tree
  pub ran : VRan tree order with_state (trace_shape tree) says printed
  pub only_run : (others : List TickResult) → VRun tree ran.init ran.ticks others → others ≡ ran.shown

-- an item of the tree lacks a value at a tick of the trace: the line that tells so, and the lines of the ticks before it
pub record VLacks (with_state : Bool) (order : Option ℕ) (text trace line printed : List ℕ) : Type 0 where
  pub tree : Verilog
  pub taken : IsTextOf text tree
  pub lack : Lack
  pub lacked : VLacked tree order with_state (trace_shape tree) trace lack printed
  pub line_is : line ≡ lack_line lack

abbrev pub VTakes : List ℕ → Type 0
VTakes text = (v : Verilog) × IsTextOf text v

abbrev pub HasVShape : List ℕ → TraceShape → Type 0
HasVShape text s = (v : Verilog) × IsTextOf text v × (s ≡ trace_shape v)

-- from that state through these ticks each item of the tree has a value
abbrev pub VRuns : List ℕ → List ℕ → List Tick → Type 0
VRuns text init ticks = (v : Verilog) × IsTextOf text v × (shown : List TickResult) × VRun v init ticks shown

abbrev pub vsim_meaning : Bool → Option ℕ → SimulationMeaning
vsim_meaning with_state order = record {
  status = status.BadVerilog;
  refuses = VRefuses;
  takes = VTakes;
  has_shape = HasVShape;
  runs = VRuns;
  prints = VPrints with_state order;
  lacks = VLacks with_state order;
}
