-- Fronts of traces, of runs and of their lines.
-- Lines at the front of a trace spell the first of its ticks. The lines of a run through the first ticks begin those of each run through all of them, where
-- no other run goes through the first; so it is where a state and a tick allow one result at most.
use Rattle.std.specs.Prelude.{◌≡◌, ◌≢◌, ℕ, List, [], ◌++◌, Bool, ◌⊎◌}
use Rattle.fir_base.specs.Ticks.{Tick, TickResult, Allowance, IsRun}
use Rattle.trace_text.specs.declared.fault.TraceFault.{TraceFault}
use Rattle.trace_text.specs.Lines.{AreTraceLines}
use Rattle.trace_text.specs.Shapes.{TraceShape}
use Rattle.trace_text.specs.TraceSpells.{LinesSpell, TraceSpells}
use Rattle.trace_text.specs.BadLine.{BadLine}
use Rattle.trace_text.specs.RunLines.{run_text}

-- a list begins another
pub record IsFrontOf {A : Type 0} (front whole : List A) : Type 0 where
  pub back : List A
  pub parts : whole ≡ front ++ back

-- what a trace says, up to its end or to its first bad line
abbrev pub Says : List ℕ → TraceShape → List ℕ → List Tick → Type 0
Says bytes shape init ticks = TraceSpells bytes shape init ticks ⊎ ((fault : TraceFault) × BadLine bytes shape init ticks fault)

-- the first of the ticks, and where there is one the initial state
pub record IsFirstOf (init : List ℕ) (ticks : List Tick) (whole_init : List ℕ) (whole : List Tick) : Type 0 where
  pub front : IsFrontOf ticks whole
  pub same_init : ticks ≢ [] → init ≡ whole_init

-- lines at the front of a trace spell the first of what it says
abbrev pub FrontSpellsFirst : Type 0
FrontSpellsFirst =
    (bytes : List ℕ) (shape : TraceShape) (lines : List (List ℕ)) (init whole_init : List ℕ) (ticks whole : List Tick)
    → AreTraceLines bytes lines → LinesSpell shape lines init ticks → Says bytes shape whole_init whole → IsFirstOf init ticks whole_init whole

-- a state and a tick allow one result at most
abbrev pub AllowsOne : Allowance → Type 0
AllowsOne allows =
    (state : List ℕ) (tick : Tick) (shown other : TickResult) → allows state tick shown.outputs shown.clocks shown.state
    → allows state tick other.outputs other.clocks other.state → other ≡ shown

-- a run, and no other goes from the state through the ticks
pub record IsOnlyRun (allows : Allowance) (init : List ℕ) (ticks : List Tick) (shown : List TickResult) : Type 0 where
  pub run : IsRun allows init ticks shown
  pub only : (others : List TickResult) → IsRun allows init ticks others → others ≡ shown

abbrev pub OneResultOneRun : Allowance → Type 0
OneResultOneRun allows =
    AllowsOne allows → (init : List ℕ) (ticks : List Tick) (shown : List TickResult) → IsRun allows init ticks shown → IsOnlyRun allows init ticks shown

-- the lines of the one run through the first ticks begin those of each run through all of them, at whatever widths, with the state or without
abbrev pub FirstLinesBegin : Allowance → Type 0
FirstLinesBegin allows =
    (outputs state : List ℕ) (with_state : Bool) (init : List ℕ) (ticks whole : List Tick) (shown all : List TickResult)
    → IsFrontOf ticks whole → IsOnlyRun allows init ticks shown → IsRun allows init whole all
    → IsFrontOf (run_text outputs state with_state shown) (run_text outputs state with_state all)

-- lines at the front of a trace spell some ticks: the lines of the one run through these begin those of each run through all that the trace says
abbrev pub FrontLinesBegin : Allowance → Type 0
FrontLinesBegin allows =
    (outputs state : List ℕ) (with_state : Bool) (bytes : List ℕ) (shape : TraceShape) (lines : List (List ℕ)) (init whole_init : List ℕ)
    (ticks whole : List Tick) (shown all : List TickResult)
    → AreTraceLines bytes lines → LinesSpell shape lines init ticks → IsOnlyRun allows init ticks shown → Says bytes shape whole_init whole
    → IsRun allows whole_init whole all → IsFrontOf (run_text outputs state with_state shown) (run_text outputs state with_state all)
