-- How the parts of a simulation end: all that is done with a trace, with what is simulated, and with the text of the first file.
use Rattle.std.specs.Prelude.{◌≡◌, ℕ, ◌+◌, ◌<◌, List, length, IfSome, ◌⊎◌, Result, Ok, Err, Vec}
use Rattle.std.specs.declared.alloc.Global.{Global}
use Rattle.fir_base.specs.Ticks.{Tick}
use Rattle.fir_base.specs.declared.refused.Refused.{Refused}
use Rattle.fir_base.specs.declared.refused.Refused.TheVariants as refused
use Rattle.fir_io.specs.Ports.{SinkSeen, Rose, AtLeast, Grew, Kept, GrewByFront}
use Rattle.trace_text.specs.declared.fault.TraceFault.{TraceFault}
use Rattle.trace_text.specs.Shapes.{TraceShape}
use Rattle.trace_text.specs.TraceSpells.{TraceSpells}
use Rattle.trace_text.specs.BadLine.{BadLine}
use Rattle.trace_text.specs.FaultTexts.{fault_text}
use Rattle.trace_lines.specs.declared.lines.Finish.{Finish}
use Rattle.trace_lines.specs.declared.lines.Finish.TheVariants as finish
use Rattle.trace_lines.specs.Saying.{SaysFront, SaysBadly, lack_line}
use Rattle.fir_cli.specs.declared.status.Status.{Status}
use Rattle.fir_cli.specs.declared.status.Status.TheVariants as status
use Rattle.fir_cli.specs.Messages.{unread_line, too_long_line, unwritten_line, memory_line}
use Rattle.fir_cli.specs.Outside.{IsRead, Outside, limit}
use Rattle.fir_cli.specs.working.Endings.{Said, Complained}
use Rattle.trace_command.specs.Simulates.{SimulationMeaning}

-- what is simulated is made of the text, or the line that refuses it, unless memory ran out
abbrev pub IsMachineFor : {M : Type 0} → SimulationMeaning → (List ℕ → M → Type 0) → List ℕ → Result M (Refused (Vec ℕ Global)) → Type 0
IsMachineFor k IsOf text (Ok machine) = IsOf text machine × k.takes text
IsMachineFor k IsOf text (Err (refused.Fault line)) = k.refuses text line.items
IsMachineFor k IsOf text (Err refused.Memory) = Unit {0}

-- the output grew by the lines of some first ticks, or by a front of them
abbrev pub BeganLines : SimulationMeaning → List ℕ → List ℕ → SinkSeen → SinkSeen → Type 0
BeganLines k text trace old new = (printed : List ℕ) × k.prints text (SaysFront trace) printed × GrewByFront old new printed

-- the output grew by the lines of the ticks before a line that is bad for this reason
pub record EndedBadly (k : SimulationMeaning) (text trace : List ℕ) (fault : TraceFault) (old new : SinkSeen) : Type 0 where
  pub shape : TraceShape
  pub init : List ℕ
  pub ticks : List Tick
  pub bad : BadLine trace shape init ticks fault
  pub printed : List ℕ
  pub prints : k.prints text (SaysBadly trace (fault_text fault bad.bad)) printed
  pub front : k.prints text (SaysFront trace) printed
  pub grew : Grew old new printed

-- the ticks of the trace were run
abbrev pub RanTicks : SimulationMeaning → List ℕ → List ℕ → SinkSeen → SinkSeen → Finish → Type 0
RanTicks k text trace old new finish.AllRun = (printed : List ℕ) × k.prints text (TraceSpells trace) printed × Grew old new printed
RanTicks k text trace old new (finish.BadLine fault) = EndedBadly k text trace fault old new
RanTicks k text trace old new (finish.Lacking lack) =
    (printed : List ℕ) × k.lacks text trace (lack_line lack) printed × k.prints text (SaysFront trace) printed × Grew old new printed
RanTicks k text trace old new finish.Unwritten = BeganLines k text trace old new × Rose old.faults new.faults
RanTicks k text trace old new finish.NoMemory = Kept old new ⊎ BeganLines k text trace old new

-- what is said of how the ticks ended
abbrev pub FinishSaid : Status → List ℕ → Finish → SinkSeen → SinkSeen → Status → Type 0
FinishSaid due trace finish.AllRun err err' ending = (ending ≡ status.Done) × (err' ≡ err)
FinishSaid due trace (finish.BadLine fault) err err' ending =
    (s : TraceShape) (init : List ℕ) (ticks : List Tick) (bad : BadLine trace s init ticks fault) → Complained (fault_text fault bad.bad) status.BadTrace err err' ending
FinishSaid due trace (finish.Lacking lack) err err' ending = Complained (lack_line lack) due err err' ending
FinishSaid due trace finish.Unwritten err err' ending = Said unwritten_line status.Unwritten err err' ending
FinishSaid due trace finish.NoMemory err err' ending = Said memory_line status.NoMemory err err' ending

-- the ticks of the trace were run, and it was said how they ended
abbrev pub OfTrace : SimulationMeaning → List ℕ → List ℕ → SinkSeen → SinkSeen → SinkSeen → SinkSeen → Status → Type 0
OfTrace k text trace out out' err err' ending = (how : Finish) × RanTicks k text trace out out' how × FinishSaid k.status trace how err err' ending

-- a file was not read, and the output is as it was
abbrev pub NotRead : List ℕ → Outside → Outside → Status → Type 0
NotRead name before after ending =
    (after.out ≡ before.out)
    × ((Rose before.files.faults after.files.faults × Complained (unread_line name) status.Unread before.err after.err ending)
    ⊎ ((AtLeast (limit + 1) after.files.taken × IfSome (before.files.told name) (λ content. limit < length content)) × Complained (too_long_line name) status.TooLong before.err after.err ending)
    ⊎ Said memory_line status.NoMemory before.err after.err ending)

-- what was done with what is simulated, and the name of the trace's file
abbrev pub OfMachine : SimulationMeaning → List ℕ → List ℕ → Outside → Outside → Status → Type 0
OfMachine k text name before after ending =
    ((trace : List ℕ) × IsRead name before trace × OfTrace k text trace before.out after.out before.err after.err ending)
    ⊎ NotRead name before after ending

-- and with the text
abbrev pub OfText : SimulationMeaning → List ℕ → List ℕ → Outside → Outside → Status → Type 0
OfText k text name before after ending =
    (k.takes text × OfMachine k text name before after ending)
    ⊎ ((line : List ℕ) × k.refuses text line × (after.out ≡ before.out) × Said line k.status before.err after.err ending)
    ⊎ ((after.out ≡ before.out) × Said memory_line status.NoMemory before.err after.err ending)
