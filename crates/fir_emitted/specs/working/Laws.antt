-- What is emitted of a circuit prints on a trace what the circuit prints.
use Rattle.std.specs.Prelude.{ℕ, List, Bool, None}
use Rattle.trace_lines.specs.Saying.{Saying}
use Rattle.ver_sim.specs.TraceShapes.{trace_shape}
use Rattle.ver_runner.specs.VerilogLines.{VRan}
use Rattle.fir_outcome.specs.Emits.{Emits}
use Rattle.fir_outcome.specs.Simulations.{Prints}
use Rattle.fir_outcome.specs.Traces.{IsTraceShape}

-- the traces of the emitted tree have the shape of the circuit's
abbrev pub EmittedHasShape : Type 0
EmittedHasShape = (read written : List ℕ) (e : Emits read written) → IsTraceShape e.circuit (trace_shape e.verilog)

-- what the emitted tree prints where this is said of a trace, the circuit prints
abbrev pub OfEmitted : Saying → Type 0
OfEmitted says =
    (read written : List ℕ) (e : Emits read written) (with_state : Bool) (printed : List ℕ)
    → VRan e.verilog None with_state (trace_shape e.verilog) says printed → Prints read with_state says printed
