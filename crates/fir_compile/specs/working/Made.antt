-- What a simulation of a text is made of.
-- The text spells one circuit, which is taken; the net is its flat net, which has one choice of values at every tick, and the shape that of the circuit's traces.
use Rattle.std.specs.Prelude.{◌≡◌, ℕ, List, Result, Ok, Err}
use Rattle.fir_base.specs.declared.refused.Refused.{Refused}
use Rattle.fir_base.specs.declared.refused.Refused.TheVariants.{Fault, Memory}
use Rattle.fir_ast.specs.declared.fault.FirFault.{FirFault}
use Rattle.fir_ast.specs.working.CodeFaults.{fault_of}
use Rattle.fir_ast.specs.Circuits.{CircuitTree}
use Rattle.fir_parse.specs.Spells.{Spells}
use Rattle.fir_net.specs.declared.net.FlatNet.{FlatNet}
use Rattle.fir_net.specs.working.One.{One}
use Rattle.fir_net.specs.working.Settled.{shape}
use Rattle.fir_flatten.specs.working.FlattensTo.{FlattensTo}
use Rattle.trace_text.specs.Shapes.{TraceShape, plain}
use Rattle.fir_compile.specs.declared.compiled.Compiled.{Compiled}
use Rattle.fir_outcome.specs.Emits.{Takes}
use Rattle.fir_outcome.specs.Refusals.{RefusedFor}
use Rattle.fir_outcome.specs.Traces.{IsTraceShape}

pub record IsMadeOf (text : List ℕ) (net : FlatNet) (s : TraceShape) : Type 0 where
  pub circuit : CircuitTree
  pub taken : Takes text circuit
  pub only_circuit : (other : CircuitTree) → Spells text other → other ≡ circuit
  pub flattened : FlattensTo circuit net
  pub one : One net
  pub shaped : IsTraceShape circuit s
  pub of_net : plain s ≡ shape net

abbrev pub Makes : List ℕ → Result (Compiled × TraceShape) (Refused FirFault) → Type 0
Makes text (Ok (compiled, s)) = IsMadeOf text compiled.net s
Makes text (Err (Fault f)) = RefusedFor text (fault_of f)
Makes text (Err Memory) = Unit {0}
