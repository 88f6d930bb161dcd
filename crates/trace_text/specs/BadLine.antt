-- The first bad line of a trace.
-- The lines before it spell an initial state and ticks; it is none that may follow, and this is the first thing that is wrong with it.
use Rattle.std.specs.Prelude.{◌≡◌, ℕ, ◌+◌, ◌-◌, List, [], ◌∷◌, ◌++◌, length, Bool, true, false}
use Rattle.fir_base.specs.Ticks.{Tick}
use Rattle.trace_text.specs.declared.fault.Cause.{Cause}
use Rattle.trace_text.specs.declared.fault.TraceFault.{TraceFault}
use Rattle.trace_text.specs.Lines.{AreTraceLines, bytes_behind}
use Rattle.trace_text.specs.Shapes.{TraceShape}
use Rattle.trace_text.specs.LineFaults.{line_faults}
use Rattle.trace_text.specs.TraceSpells.{LinesSpell}

abbrev pub are_some : List Tick → Bool
are_some [] = false
are_some (tick ∷ ticks) = true

pub record BadLine (bytes : List ℕ) (shape : TraceShape) (init : List ℕ) (ticks : List Tick) (fault : TraceFault) : Type 0 where
  pub before : List (List ℕ)
  pub bad : List ℕ
  pub lines : AreTraceLines bytes (before ++ bad ∷ [])
  pub spelled : LinesSpell shape before init ticks
  pub later : List Cause
  pub first : line_faults shape (are_some ticks) bad ≡ fault.cause ∷ later
  pub number : fault.line ≡ length before + 1
  pub start : fault.start ≡ length bytes - length (bytes_behind bytes before)
