-- How far the calls walk over the lines of a trace.
use Rattle.std.specs.Prelude.{◌≡◌, ℕ, ◌+◌, ◌<◌, List, [], ◌∷◌, length, take, drop, Bool, true, false, ◌&&◌, ◌||◌, nat_lt, count_by, Some, Result, Ok, Err}
use Rattle.std.specs.List.{AllByRecursion}
use Rattle.fir_base.specs.declared.refused.Refused.{Refused}
use Rattle.fir_base.specs.declared.refused.Refused.TheVariants.{Fault, Memory}
use Rattle.trace_text.specs.declared.fault.Cause.{Cause}
use Rattle.trace_text.specs.declared.fault.TraceFault.{TraceFault}
use Rattle.trace_text.specs.declared.lines.Line.{Line}
use Rattle.trace_text.specs.Lines.{is_newline, AreTraceLines, bytes_behind, first_line, later_lines, IsSkipped}
use Rattle.trace_text.specs.Shapes.{TraceShape}
use Rattle.trace_text.specs.LineFaults.{line_faults}
use Rattle.trace_text.specs.TraceSpells.{AreInits, zeros}
use Rattle.trace_text.specs.working.Readings.{IsPlace, is_skipped, is_init_line, first_cause}

-- a place behind skipped lines
pub record IsPast (bytes : List ℕ) (from to : ℕ) : Type 0 where
  pub skipped : List (List ℕ)
  pub lines_are : AreTraceLines (drop from bytes) skipped
  pub are_skipped : AllByRecursion IsSkipped skipped
  pub rest : IsPlace bytes to (bytes_behind (drop from bytes) skipped)

-- the line at a place, and the place behind it
pub record IsLine (bytes : List ℕ) (line : Line) : Type 0 where
  pub before : line.place < length bytes
  pub text : line.text.now ≡ first_line (drop line.place bytes)
  pub rest : IsPlace bytes line.behind (later_lines (drop line.place bytes))
  pub later : line.place < line.behind

-- a line that counts, behind skipped lines
pub record IsCounting (bytes : List ℕ) (from : ℕ) (line : Line) : Type 0 where
  pub past : IsPast bytes from line.place
  pub here : IsLine bytes line
  pub counts : is_skipped line.text.now ≡ false

-- a place behind lines that give this state
pub record InitsTo (bytes : List ℕ) (shape : TraceShape) (place : ℕ) (words : List ℕ) : Type 0 where
  pub lines : List (List ℕ)
  pub lines_are : AreTraceLines bytes lines
  pub spelled : AreInits shape lines (zeros shape) words
  pub rest : IsPlace bytes place (bytes_behind bytes lines)
  pub room : length words ≡ length (zeros shape)

-- the line may stand before the ticks, as far as its first byte or word shows
abbrev pub is_before_ticks : List ℕ → Bool
is_before_ticks line = is_skipped line || is_init_line line

-- such a line begins at the place
abbrev pub goes_on : List ℕ → ℕ → Bool
goes_on bytes place = nat_lt place (length bytes) && is_before_ticks (first_line (drop place bytes))

-- the line that begins there
pub record IsBeforeTicks (bytes : List ℕ) (place : ℕ) (line : Line) : Type 0 where
  pub here : IsLine bytes line
  pub at : line.place ≡ place
  pub stands : is_before_ticks line.text.now ≡ true

-- what comes of such a line: the state is changed only where the line is spelled
abbrev pub TakesLine : TraceShape → List ℕ → List ℕ → List ℕ → Result (Unit {0}) (Refused Cause) → Type 0
TakesLine shape line old new (Ok u) = AreInits shape (line ∷ []) old new
TakesLine shape line old new (Err (Fault cause)) = (is_init_line line ≡ true) × (first_cause (line_faults shape false line) ≡ Some cause)
TakesLine shape line old new (Err Memory) = Unit {0}

-- the fault of the line that begins at the place
abbrev pub fault_at : List ℕ → ℕ → Cause → TraceFault
fault_at bytes place cause = record { line = 1 + count_by is_newline (take place bytes); start = place; cause = cause }

abbrev pub refused_at : List ℕ → ℕ → Refused Cause → Refused TraceFault
refused_at bytes place (Fault cause) = Fault (fault_at bytes place cause)
refused_at bytes place Memory = Memory
