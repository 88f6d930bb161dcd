-- Which status a simulation gives, where memory is there and no read or write fails.
use Rattle.std.specs.Prelude.{◌≡◌, ◌≢◌, ℕ, List}
use Rattle.fir_base.specs.Ticks.{Tick}
use Rattle.trace_text.specs.declared.fault.TraceFault.{TraceFault}
use Rattle.trace_text.specs.Shapes.{TraceShape}
use Rattle.trace_text.specs.TraceSpells.{TraceSpells}
use Rattle.trace_text.specs.BadLine.{BadLine}
use Rattle.fir_cli.specs.Outside.{Outside, NoneFailed, Tells, TellsTooMuch, code}
use Rattle.trace_command.specs.Simulates.{SimulationMeaning, SimulationFiles}

pub record SimulationAnswers (k : SimulationMeaning) (s : SimulationFiles) (before : Outside) (answer : ℕ) : Type 0 where
  pub too_long : TellsTooMuch before s.source → answer ≡ 8
  pub refused : (text : List ℕ) → Tells before s.source text → (k.takes text → ⊥) → answer ≡ code k.status
  pub trace_too_long : (text : List ℕ) → Tells before s.source text → k.takes text → TellsTooMuch before s.trace → answer ≡ 8
  pub done :
      (text trace : List ℕ) (shape : TraceShape) (init : List ℕ) (ticks : List Tick)
      → Tells before s.source text → k.has_shape text shape → Tells before s.trace trace → TraceSpells trace shape init ticks → k.runs text init ticks → answer ≡ 0
  pub bad :
      (text trace : List ℕ) (shape : TraceShape) (init : List ℕ) (ticks : List Tick) (fault : TraceFault)
      → Tells before s.source text → k.has_shape text shape → Tells before s.trace trace → BadLine trace shape init ticks fault → k.runs text init ticks → answer ≡ 6
  -- a tick lacks a value, of all or of those before a bad line
  pub lacking :
      (text trace : List ℕ) (shape : TraceShape) (init : List ℕ) (ticks : List Tick)
      → Tells before s.source text → k.has_shape text shape → Tells before s.trace trace → TraceSpells trace shape init ticks → (k.runs text init ticks → ⊥)
      → answer ≡ code k.status
  pub lacking_before_bad :
      (text trace : List ℕ) (shape : TraceShape) (init : List ℕ) (ticks : List Tick) (fault : TraceFault)
      → Tells before s.source text → k.has_shape text shape → Tells before s.trace trace → BadLine trace shape init ticks fault → (k.runs text init ticks → ⊥)
      → answer ≡ code k.status

abbrev pub SimulationComplete : SimulationMeaning → SimulationFiles → Outside → Outside → ℕ → Type 0
SimulationComplete k s before after answer = answer ≢ 5 → NoneFailed before after → SimulationAnswers k s before answer
