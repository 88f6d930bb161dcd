-- What the calls say of a trace: the init lines at its front, and the next tick from a place on.
use Rattle.std.specs.Prelude.{◌≡◌, ◌≢◌, ℕ, ◌+◌, ◌≤◌, ◌<◌, List, [], ◌∷◌, ◌++◌, length, take, drop, codes, Bool, true, false, ◌&&◌, nat_le, count_by, Option, Some, None, Result, Ok, Err}
use Rattle.std.specs.List.{AllByRecursion}
use Rattle.std.specs.Str.{bytes_eq}
use Rattle.fir_base.specs.Ticks.{Tick, FitEach}
use Rattle.fir_base.specs.declared.refused.Refused.{Refused}
use Rattle.fir_base.specs.declared.refused.Refused.TheVariants.{Fault, Memory}
use Rattle.trace_text.specs.declared.fault.Cause.{Cause}
use Rattle.trace_text.specs.declared.fault.TraceFault.{TraceFault}
use Rattle.trace_text.specs.declared.init_line.InitWord.{InitWord}
use Rattle.trace_text.specs.Lines.{line_limit, is_remark, is_newline, AreTraceLines, bytes_behind, first_line, words_of, IsSkipped}
use Rattle.trace_text.specs.Shapes.{TraceShape, state_widths}
use Rattle.trace_text.specs.SpelledLines.{IsInitLine, IsTickLine}
use Rattle.trace_text.specs.LineFaults.{line_faults}
use Rattle.trace_text.specs.TraceSpells.{AreInits, zeros}

-- the place is the front of what is left of the bytes
pub record IsPlace (bytes : List ℕ) (place : ℕ) (rest : List ℕ) : Type 0 where
  pub within : place ≤ length bytes
  pub left : drop place bytes ≡ rest

abbrev pub is_skipped : List ℕ → Bool
is_skipped line = nat_le (length line) line_limit && is_remark line

-- a line that begins with the word `init`
abbrev pub begins_with_init : List (List ℕ) → Bool
begins_with_init [] = false
begins_with_init (w ∷ ws) = bytes_eq w (codes "init")

abbrev pub is_init_line : List ℕ → Bool
is_init_line line = begins_with_init (words_of line)

-- what is told of a line
abbrev pub first_cause : List Cause → Option Cause
first_cause [] = None
first_cause (cause ∷ later) = Some cause

-- what comes of a line that begins with `init` where no tick came before it
abbrev pub ReadsInitLine : TraceShape → List ℕ → Result InitWord (Refused Cause) → Type 0
ReadsInitLine shape line (Ok word) = IsInitLine shape line word.place word.value × (word.place < length (state_widths shape.state))
ReadsInitLine shape line (Err (Fault cause)) = first_cause (line_faults shape false line) ≡ Some cause
ReadsInitLine shape line (Err Memory) = Unit {0}

-- what comes of a line of a tick, or of one that should be one: the tick is changed only where the line is spelled
abbrev pub ReadsTickLine : TraceShape → List ℕ → Tick → Tick → Result (Unit {0}) Cause → Type 0
ReadsTickLine shape line old new (Ok u) = IsTickLine shape line new
ReadsTickLine shape line old new (Err cause) = (first_cause (line_faults shape true line) ≡ Some cause) × (new ≡ old)

-- the first bad line of what is left begins at the place, behind so many lines
pub record IsBad (bytes : List ℕ) (shape : TraceShape) (after : Bool) (line : List ℕ) (place : ℕ) (fault : TraceFault) : Type 0 where
  pub later : List Cause
  pub first : line_faults shape after line ≡ fault.cause ∷ later
  pub start : fault.start ≡ place
  pub number : fault.line ≡ 1 + count_by is_newline (take place bytes)

-- the first line, where there is one, is neither skipped nor begins with `init`
abbrev pub InitsStop : List ℕ → Type 0
InitsStop rest = rest ≢ [] → (is_init_line (first_line rest) ≡ false) × (IsSkipped (first_line rest) → ⊥)

-- the init lines, up to the first line that is neither skipped nor begins with `init`, or up to the end
pub record InitsRead (bytes : List ℕ) (shape : TraceShape) (init : List ℕ) (place : ℕ) : Type 0 where
  pub lines : List (List ℕ)
  pub lines_are : AreTraceLines bytes lines
  pub spelled : AreInits shape lines (zeros shape) init
  pub rest : IsPlace bytes place (bytes_behind bytes lines)
  pub stops : InitsStop (bytes_behind bytes lines)

-- an init line that is bad stands behind init lines
pub record InitIsBad (bytes : List ℕ) (shape : TraceShape) (fault : TraceFault) : Type 0 where
  pub lines : List (List ℕ)
  pub init : List ℕ
  pub bad : List ℕ
  pub place : ℕ
  pub lines_are : AreTraceLines bytes (lines ++ bad ∷ [])
  pub spelled : AreInits shape lines (zeros shape) init
  pub begins : is_init_line bad ≡ true
  pub rest : IsPlace bytes place (bytes_behind bytes lines)
  pub is_bad : IsBad bytes shape false bad place fault

-- a tick's line stands behind skipped lines; the place behind it
pub record TickRead (bytes : List ℕ) (shape : TraceShape) (from to : ℕ) (tick : Tick) : Type 0 where
  pub skipped : List (List ℕ)
  pub line : List ℕ
  pub lines_are : AreTraceLines (drop from bytes) (skipped ++ line ∷ [])
  pub are_skipped : AllByRecursion IsSkipped skipped
  pub spelled : IsTickLine shape line tick
  pub rest : IsPlace bytes to (bytes_behind (drop from bytes) (skipped ++ line ∷ []))

-- only skipped lines stand from the place on
pub record NoTick (bytes : List ℕ) (from to : ℕ) : Type 0 where
  pub skipped : List (List ℕ)
  pub lines_are : AreTraceLines (drop from bytes) skipped
  pub are_skipped : AllByRecursion IsSkipped skipped
  pub whole : bytes_behind (drop from bytes) skipped ≡ []
  pub end : to ≡ length bytes

-- a bad line stands behind skipped lines; its place
pub record TickIsBad (bytes : List ℕ) (shape : TraceShape) (from to : ℕ) (fault : TraceFault) : Type 0 where
  pub skipped : List (List ℕ)
  pub bad : List ℕ
  pub lines_are : AreTraceLines (drop from bytes) (skipped ++ bad ∷ [])
  pub are_skipped : AllByRecursion IsSkipped skipped
  pub not_skipped : IsSkipped bad → ⊥
  pub rest : IsPlace bytes to (bytes_behind (drop from bytes) skipped)
  pub is_bad : IsBad bytes shape true bad to fault

-- what `next_tick` does: the tick is changed only where one is read
abbrev pub StepsToTick : List ℕ → TraceShape → ℕ → ℕ → Tick → Tick → Result Bool TraceFault → Type 0
StepsToTick bytes shape from to old new (Ok true) = TickRead bytes shape from to new
StepsToTick bytes shape from to old new (Ok false) = NoTick bytes from to × (new ≡ old)
StepsToTick bytes shape from to old new (Err fault) = TickIsBad bytes shape from to fault × (new ≡ old)

-- what `read_init` does: the state, which fits the shape, and the place behind the init lines
abbrev pub ReadsInit : List ℕ → TraceShape → Result (List ℕ × ℕ) (Refused TraceFault) → Type 0
ReadsInit bytes shape (Ok (init, place)) = InitsRead bytes shape init place × FitEach (state_widths shape.state) init
ReadsInit bytes shape (Err (Fault fault)) = InitIsBad bytes shape fault
ReadsInit bytes shape (Err Memory) = Unit {0}
