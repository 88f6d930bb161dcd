-- The command `sim`: the circuit of one file on the trace of another, each of whose items has a value at every tick.
use Rattle.std.specs.Prelude.{ℕ, List, Bool}
use Rattle.fir_ast.specs.Circuits.{CircuitTree}
use Rattle.trace_text.specs.Shapes.{TraceShape}
use Rattle.fir_cli.specs.declared.status.Status.TheVariants as status
use Rattle.trace_command.specs.Simulates.{SimulationMeaning}
use Rattle.fir_outcome.specs.Emits.{Takes}
use Rattle.fir_outcome.specs.Refusals.{Refuses}
use Rattle.fir_outcome.specs.Simulations.{Prints}
use Rattle.fir_outcome.specs.Traces.{IsTraceShape}
use Rattle.fir_commands.specs.Emit.{IsTaken}

-- a shape of the traces of the circuit that is taken
abbrev pub HasTraces : List ℕ → TraceShape → Type 0
HasTraces text shape = (c : CircuitTree) × Takes text c × IsTraceShape c shape

-- with the state or without
abbrev pub sim_meaning : Bool → SimulationMeaning
sim_meaning with_state = record {
  status = status.Refused;
  refuses = Refuses;
  takes = IsTaken;
  has_shape = HasTraces;
  runs = λ text init ticks. Unit {0};
  prints = λ text says printed. Prints text with_state says printed;
  lacks = λ text trace line printed. ⊥;
}
