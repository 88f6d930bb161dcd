-- How the steps of the readers make a whole trace.
-- The init lines and then line after line are read up to a place; the whole spells the trace where no tick is left, and has this first bad line where a
-- step shows one.
use Rattle.std.specs.Prelude.{◌≡◌, ℕ, List, [], ◌∷◌, ◌++◌}
use Rattle.fir_base.specs.Ticks.{Tick}
use Rattle.trace_text.specs.declared.fault.TraceFault.{TraceFault}
use Rattle.trace_text.specs.Lines.{AreTraceLines, bytes_behind}
use Rattle.trace_text.specs.Shapes.{TraceShape}
use Rattle.trace_text.specs.TraceSpells.{LinesSpell, TraceSpells}
use Rattle.trace_text.specs.BadLine.{BadLine}
use Rattle.trace_text.specs.working.Readings.{IsPlace, InitsStop, InitsRead, InitIsBad, TickRead, NoTick, TickIsBad}

-- the lines up to the place spell the initial state and these ticks
pub record IsReadTo (bytes : List ℕ) (shape : TraceShape) (init : List ℕ) (ticks : List Tick) (place : ℕ) : Type 0 where
  pub lines : List (List ℕ)
  pub lines_are : AreTraceLines bytes lines
  pub spelled : LinesSpell shape lines init ticks
  pub rest : IsPlace bytes place (bytes_behind bytes lines)
  -- before the first tick all init lines are read
  pub stops : ticks ≡ [] → InitsStop (bytes_behind bytes lines)

pub record ReadsInSteps (bytes : List ℕ) (shape : TraceShape) : Type 0 where
  pub begins : (init : List ℕ) (place : ℕ) → InitsRead bytes shape init place → IsReadTo bytes shape init [] place
  pub goes_on : (init : List ℕ) (ticks : List Tick) (from to : ℕ) (tick : Tick) → IsReadTo bytes shape init ticks from → TickRead bytes shape from to tick → IsReadTo bytes shape init (ticks ++ tick ∷ []) to
  pub ends : (init : List ℕ) (ticks : List Tick) (from to : ℕ) → IsReadTo bytes shape init ticks from → NoTick bytes from to → TraceSpells bytes shape init ticks
  pub is_bad : (init : List ℕ) (ticks : List Tick) (from to : ℕ) (fault : TraceFault) → IsReadTo bytes shape init ticks from → TickIsBad bytes shape from to fault → BadLine bytes shape init ticks fault
  pub init_is_bad : (fault : TraceFault) → InitIsBad bytes shape fault → (init : List ℕ) × BadLine bytes shape init [] fault

abbrev pub TraceReadsInSteps : Type 0
TraceReadsInSteps = (bytes : List ℕ) (shape : TraceShape) → ReadsInSteps bytes shape
