-- From the lines that a simulation put to what its command says of the text.
use Rattle.std.proofs.Common.{ℕ, List, [], inr}
use Rattle.fir_base.specs.Ticks.{Tick}
use Rattle.fir_io.specs.Ports.{SinkSeen}
use Rattle.trace_text.specs.declared.fault.TraceFault.{TraceFault}
use Rattle.trace_text.specs.Shapes.{TraceShape}
use Rattle.trace_text.specs.TraceSpells.{TraceSpells}
use Rattle.trace_text.specs.BadLine.{BadLine}
use Rattle.trace_text.specs.FaultTexts.{fault_text}
use Rattle.trace_lines.specs.declared.lines.Finish.{Finish}
use Rattle.trace_lines.specs.declared.lines.Finish.TheVariants as finish
use Rattle.trace_lines.specs.declared.simulation.Lack.{Lack}
use Rattle.trace_lines.specs.Saying.{Saying, SaysFront, SaysBadly, lack_line}
use Rattle.trace_lines.specs.working.Lined.{Lined}
use Rattle.trace_lines.proofs.BadLines.{before_bad}
use Rattle.trace_lines.proofs.Kept.{kept_same}
use Rattle.trace_command.specs.Simulates.{SimulationMeaning}
use Rattle.trace_command.specs.working.SimulationEndings.{RanTicks}

-- the lines of the ticks before a line that is bad for this reason, of which its line tells
pub record ToldBadly (Ran : Saying → List ℕ → Type 0) (trace : List ℕ) (fault : TraceFault) (printed : List ℕ) : Type 0 where
  pub shape : TraceShape
  pub init : List ℕ
  pub ticks : List Tick
  pub bad : BadLine trace shape init ticks fault
  pub told : Ran (SaysBadly trace (fault_text fault bad.bad)) printed

module _ (k : SimulationMeaning) (text trace : List ℕ) (Ran : Saying → List ℕ → Type 0) (Lacked : List ℕ → Lack → List ℕ → Type 0)
    (prints : (says : Saying) (printed : List ℕ) → Ran says printed → k.prints text says printed)
    (tells : (fault : TraceFault) (printed : List ℕ) → Ran (λ s init ticks. BadLine trace s init ticks fault) printed → ToldBadly Ran trace fault printed)
    (lacks : (lack : Lack) (printed : List ℕ) → Lacked trace lack printed → k.lacks text trace (lack_line lack) printed) where
  pub lined_ticks : (old new : SinkSeen) (how : Finish) → Lined trace Ran Lacked old new how → RanTicks k text trace old new how
  lined_ticks old new finish.AllRun h = (h.0, prints (TraceSpells trace) h.0 h.1, h.2)
  lined_ticks old new (finish.BadLine fault) h =
      let t = tells fault h.0 h.1 in
      record {
        shape = t.shape;
        init = t.init;
        ticks = t.ticks;
        bad = t.bad;
        printed = h.0;
        prints = prints (SaysBadly trace (fault_text fault t.bad.bad)) h.0 t.told;
        front = prints (SaysFront trace) h.0 h.2;
        grew = h.3;
      }
  lined_ticks old new (finish.Lacking lack) h = (h.0, lacks lack h.0 h.1, prints (SaysFront trace) h.0 h.2, h.3)
  lined_ticks old new finish.Unwritten h = ((h.0, prints (SaysFront trace) h.0 h.1, h.3), h.2)
  lined_ticks old new finish.NoMemory h = inr (h.0, prints (SaysFront trace) h.0 h.1, h.2)

  -- a line of the initial state is bad, where this is what no ticks print
  pub init_bad : (old : SinkSeen) (shape : TraceShape) (init : List ℕ) (fault : TraceFault) → ((says : Saying) → says shape init [] → Ran says [])
      → BadLine trace shape init [] fault → RanTicks k text trace old old (finish.BadLine fault)
  init_bad old shape init fault none bad =
      lined_ticks old old (finish.BadLine fault)
      ([], none (λ s i ticks. BadLine trace s i ticks fault) bad, none (SaysFront trace) (before_bad trace shape init [] fault bad), kept_same old)
