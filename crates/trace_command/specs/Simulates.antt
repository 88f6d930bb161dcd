-- What a command does that simulates: each status, with its cause and with what stands on the outputs.
-- The file of what is simulated is read whole, and its text refused or taken; then the trace is read whole; then tick after tick gives a line.
use Rattle.std.specs.Prelude.{◌≡◌, ℕ, ◌+◌, ◌<◌, List, length, IfSome, ◌⊎◌}
use Rattle.fir_base.specs.Ticks.{Tick}
use Rattle.fir_io.specs.Ports.{Rose, AtLeast, Grew, Kept, GrewByFront}
use Rattle.trace_text.specs.Shapes.{TraceShape}
use Rattle.trace_text.specs.TraceSpells.{TraceSpells}
use Rattle.trace_lines.specs.Saying.{Saying, SaysFront, SaysBadly, BeginsAll}
use Rattle.fir_cli.specs.declared.status.Status.{Status}
use Rattle.fir_cli.specs.declared.status.Status.TheVariants as status
use Rattle.fir_cli.specs.Messages.{unread_line, too_long_line, memory_line}
use Rattle.fir_cli.specs.Outside.{limit, Outside, IsRead, OutFailed, ErrFailed, MemoryFailed}

-- what such a command says of the text of its first file
pub record SimulationMeaning : Type 1 where
  -- the status of a text that is refused, and of a tick at which an item lacks a value
  pub status : Status
  -- which line refuses a text, and which texts are taken
  pub refuses : List ℕ → List ℕ → Type 0
  pub takes : List ℕ → Type 0
  -- the shape of the traces of a text that is taken; from which state through which ticks each item has a value
  pub has_shape : List ℕ → TraceShape → Type 0
  pub runs : List ℕ → List ℕ → List Tick → Type 0
  -- the lines that are printed of a text, for what is said of a trace
  pub prints : List ℕ → Saying → List ℕ → Type 0
  -- of a text and a trace: the line on a tick at which an item lacks a value, and the lines of the ticks before it
  pub lacks : List ℕ → List ℕ → List ℕ → List ℕ → Type 0

-- the names of its two files
pub record SimulationFiles : Type 0 where
  pub source : List ℕ
  pub trace : List ℕ

-- the file that is asked: the first, and where its text is taken the trace's
abbrev pub IsAsked : SimulationMeaning → SimulationFiles → Outside → List ℕ → Type 0
IsAsked k s before name = (name ≡ s.source) ⊎ ((name ≡ s.trace) × (text : List ℕ) × IsRead s.source before text × k.takes text)

-- which line is due on the error output where no tick was run, with which status and for what cause
abbrev pub DueAtOnce : SimulationMeaning → SimulationFiles → Outside → Outside → Status → List ℕ → Type 0
DueAtOnce k s before after status.Unread line =
    (name : List ℕ) × IsAsked k s before name × Rose before.files.faults after.files.faults × (line ≡ unread_line name)
DueAtOnce k s before after status.TooLong line =
    (name : List ℕ) × IsAsked k s before name × AtLeast (limit + 1) after.files.taken
    × IfSome (before.files.told name) (λ content. limit < length content) × (line ≡ too_long_line name)
DueAtOnce k s before after other line = (other ≡ k.status) × (text : List ℕ) × IsRead s.source before text × k.refuses text line

-- both files were read, and the lines of some first ticks were made, which begin those of the whole trace
pub record BeganTicks (k : SimulationMeaning) (s : SimulationFiles) (before after : Outside) : Type 0 where
  pub text : List ℕ
  pub trace : List ℕ
  pub printed : List ℕ
  pub read_text : IsRead s.source before text
  pub read_trace : IsRead s.trace before trace
  pub prints : k.prints text (SaysFront trace) printed
  pub begins : BeginsAll (k.prints text) (k.lacks text trace) trace printed
  pub front : GrewByFront before.out after.out printed

-- the trace has a bad line: the lines of the ticks before it, and the line that is due
pub record MetBadLine (k : SimulationMeaning) (s : SimulationFiles) (before after : Outside) (line : List ℕ) : Type 0 where
  pub text : List ℕ
  pub trace : List ℕ
  pub printed : List ℕ
  pub read_text : IsRead s.source before text
  pub read_trace : IsRead s.trace before trace
  pub prints : k.prints text (SaysBadly trace line) printed
  pub whole : Grew before.out after.out printed

-- a tick lacks a value: the lines of the ticks before it, and the line that is due
pub record MetLack (k : SimulationMeaning) (s : SimulationFiles) (before after : Outside) (line : List ℕ) : Type 0 where
  pub text : List ℕ
  pub trace : List ℕ
  pub printed : List ℕ
  pub read_text : IsRead s.source before text
  pub read_trace : IsRead s.trace before trace
  pub lacks : k.lacks text trace line printed
  pub whole : Grew before.out after.out printed

-- a line is due, and what was put to the output by then
abbrev pub IsDueInSimulation : SimulationMeaning → SimulationFiles → Outside → Outside → List ℕ → Type 0
IsDueInSimulation k s before after line =
    ((due : Status) × DueAtOnce k s before after due line × Kept before.out after.out)
    ⊎ MetBadLine k s before after line
    ⊎ MetLack k s before after line
    ⊎ ((line ≡ memory_line) × (Kept before.out after.out ⊎ BeganTicks k s before after))

-- it ends before any tick
abbrev pub EndsAtOnce : SimulationMeaning → SimulationFiles → Outside → Outside → Status → Type 0
EndsAtOnce k s before after ending = (line : List ℕ) × DueAtOnce k s before after ending line × (after.out ≡ before.out) × Grew before.err after.err line

-- it ends at a tick that lacks a value
abbrev pub EndsLacking : SimulationMeaning → SimulationFiles → Outside → Outside → Status → Type 0
EndsLacking k s before after ending = (ending ≡ k.status) × (line : List ℕ) × MetLack k s before after line × Grew before.err after.err line

abbrev pub Simulates : SimulationMeaning → SimulationFiles → Outside → Outside → Status → Type 0
Simulates k s before after status.Done =
    (text : List ℕ) × (trace : List ℕ) × (printed : List ℕ) × IsRead s.source before text × IsRead s.trace before trace
    × k.prints text (TraceSpells trace) printed × Grew before.out after.out printed × (after.err ≡ before.err)
Simulates k s before after status.BadTrace = (line : List ℕ) × MetBadLine k s before after line × Grew before.err after.err line
Simulates k s before after status.Unwritten = OutFailed (BeganTicks k s before after) before after ⊎ ErrFailed (IsDueInSimulation k s before after) before after
Simulates k s before after status.NoMemory = MemoryFailed (BeganTicks k s before after) before after
Simulates k s before after status.Unread = EndsAtOnce k s before after status.Unread
Simulates k s before after status.TooLong = EndsAtOnce k s before after status.TooLong
Simulates k s before after other = EndsAtOnce k s before after other ⊎ EndsLacking k s before after other
