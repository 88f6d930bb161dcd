-- What is said of a trace: an initial state and ticks.
use Rattle.std.specs.Prelude.{◌≡◌, ◌⊎◌, ℕ, List, ◌++◌, codes, decimal}
use Rattle.fir_base.specs.Ticks.{Tick}
use Rattle.trace_lines.specs.declared.simulation.Lack.{Lack}
use Rattle.trace_text.specs.declared.fault.TraceFault.{TraceFault}
use Rattle.trace_text.specs.Lines.{AreTraceLines}
use Rattle.trace_text.specs.Shapes.{TraceShape}
use Rattle.trace_text.specs.TraceSpells.{LinesSpell, TraceSpells}
use Rattle.trace_text.specs.BadLine.{BadLine}
use Rattle.trace_text.specs.FaultTexts.{fault_text}

abbrev pub Saying : Type 1
Saying = TraceShape → List ℕ → List Tick → Type 0

-- the trace has a bad line, and says this before it; the line that tells so
abbrev pub SaysBadly : List ℕ → List ℕ → Saying
SaysBadly trace line s init ticks = (fault : TraceFault) × (bad : BadLine trace s init ticks fault) × (line ≡ fault_text fault bad.bad)

-- the lines at the front of the trace say this
abbrev pub SaysFront : List ℕ → Saying
SaysFront trace s init ticks = (lines : List (List ℕ)) × AreTraceLines trace lines × LinesSpell s lines init ticks

-- the line that tells of a tick at which an item lacks a value
abbrev pub lack_line : Lack → List ℕ
lack_line l = codes "V09 " ++ decimal l.line ++ codes ":" ++ decimal l.col ++ codes " tick " ++ decimal l.tick ++ codes "\n"

-- what a whole trace prints: up to its end, to its first bad line, or to a tick at which an item lacks a value
abbrev pub PrintsAll : (Saying → List ℕ → Type 0) → (List ℕ → List ℕ → Type 0) → List ℕ → List ℕ → Type 0
PrintsAll Prints Lacks trace printed =
    Prints (TraceSpells trace) printed ⊎ ((line : List ℕ) × Prints (SaysBadly trace line) printed) ⊎ ((line : List ℕ) × Lacks line printed)

-- these lines begin them
abbrev pub BeginsAll : (Saying → List ℕ → Type 0) → (List ℕ → List ℕ → Type 0) → List ℕ → List ℕ → Type 0
BeginsAll Prints Lacks trace printed = (all : List ℕ) → PrintsAll Prints Lacks trace all → (later : List ℕ) × (all ≡ printed ++ later)
