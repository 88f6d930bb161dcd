-- What a tree printed on a trace up to a bad line, as `vsim` says it of the text.
use Rattle.std.proofs.Common.{ℕ, List, Bool, Option, refl}
use Rattle.trace_text.specs.declared.fault.TraceFault.{TraceFault}
use Rattle.trace_text.specs.BadLine.{BadLine}
use Rattle.trace_text.specs.Shapes.{TraceShape}
use Rattle.trace_command.proofs.LinedTicks.{ToldBadly}
use Rattle.ver_ast.specs.declared.tree.Verilog.{Verilog}
use Rattle.ver_runner.specs.VerilogLines.{VRan}

pub told_badly : (v : Verilog) (order : Option ℕ) (with_state : Bool) (s : TraceShape) (trace : List ℕ) (fault : TraceFault) (printed : List ℕ)
    → VRan v order with_state s (λ s init ticks. BadLine trace s init ticks fault) printed → ToldBadly (VRan v order with_state s) trace fault printed
told_badly v order with_state s trace fault printed r = record {
  shape = s;
  init = r.init;
  ticks = r.ticks;
  bad = r.said;
  told = record { init = r.init; ticks = r.ticks; said = (fault, r.said, refl); shown = r.shown; run = r.run; lines = r.lines };
}
