-- The lines before a bad one stand at the front of the trace.
use Rattle.std.proofs.Common.{ℕ, List, [], ◌∷◌}
use Rattle.fir_base.specs.Ticks.{Tick}
use Rattle.trace_text.specs.declared.fault.TraceFault.{TraceFault}
use Rattle.trace_text.specs.Shapes.{TraceShape}
use Rattle.trace_text.specs.BadLine.{BadLine}
use Rattle.trace_text.proofs.LineFronts.{front_lines}
use Rattle.trace_lines.specs.Saying.{SaysFront}

pub before_bad : (trace : List ℕ) (s : TraceShape) (init : List ℕ) (ticks : List Tick) (fault : TraceFault) → BadLine trace s init ticks fault
    → SaysFront trace s init ticks
before_bad trace s init ticks fault bad = (bad.before, front_lines trace bad.before (bad.bad ∷ []) bad.lines, bad.spelled)
