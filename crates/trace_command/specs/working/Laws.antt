-- What holds of the meaning of each command that simulates.
use Rattle.std.specs.Prelude.{◌≡◌, ◌⊎◌, ℕ, List}
use Rattle.fir_base.specs.Ticks.{Tick}
use Rattle.fir_cli.specs.declared.status.Status.{Status}
use Rattle.fir_cli.specs.declared.status.Status.TheVariants as status
use Rattle.trace_text.specs.declared.fault.TraceFault.{TraceFault}
use Rattle.trace_text.specs.Shapes.{TraceShape}
use Rattle.trace_text.specs.TraceSpells.{TraceSpells}
use Rattle.trace_text.specs.BadLine.{BadLine}
use Rattle.trace_lines.specs.Saying.{Saying, SaysFront, BeginsAll}
use Rattle.trace_command.specs.Simulates.{SimulationMeaning}

-- the status of a text that is refused
abbrev pub IsOfRefusal : Status → Type 0
IsOfRefusal status.Refused = Unit {0}
IsOfRefusal status.BadVerilog = Unit {0}
IsOfRefusal other = ⊥

-- the lines of the first ticks of a trace begin those of the whole trace
abbrev pub FrontsBegin : SimulationMeaning → Type 0
FrontsBegin k = (text trace printed : List ℕ) → k.prints text (SaysFront trace) printed → BeginsAll (k.prints text) (k.lacks text trace) trace printed

-- what is printed is that of a run over what is said
pub record PrintsRun (k : SimulationMeaning) (text : List ℕ) (says : Saying) : Type 0 where
  pub shape : TraceShape
  pub shaped : k.has_shape text shape
  pub init : List ℕ
  pub ticks : List Tick
  pub said : says shape init ticks
  pub runs : k.runs text init ticks

pub record SimulationLaws (k : SimulationMeaning) : Type 1 where
  pub refused_is_not_taken : (text line : List ℕ) → k.refuses text line → k.takes text → ⊥
  pub shaped_is_taken : (text : List ℕ) (shape : TraceShape) → k.has_shape text shape → k.takes text
  pub one_shape : (text : List ℕ) (s t : TraceShape) → k.has_shape text s → k.has_shape text t → s ≡ t
  pub prints_run : (text : List ℕ) (says : Saying) (printed : List ℕ) → k.prints text says printed → PrintsRun k text says
  pub lacking_is_taken : (text trace line printed : List ℕ) → k.lacks text trace line printed → k.takes text
  pub lacking_does_not_run :
      (text trace line printed : List ℕ) (shape : TraceShape) (init : List ℕ) (ticks : List Tick) → k.lacks text trace line printed → k.has_shape text shape
      → TraceSpells trace shape init ticks ⊎ ((fault : TraceFault) × BadLine trace shape init ticks fault) → k.runs text init ticks → ⊥
