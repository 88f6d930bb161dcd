-- Laws about the definitions.
use Rattle.std.specs.Prelude.{◌≡◌, ◌↔◌, ℕ, List, [], Bool, false, ◌⊎◌}
use Rattle.fir_base.specs.Ticks.{Tick}
use Rattle.trace_text.specs.declared.fault.TraceFault.{TraceFault}
use Rattle.trace_text.specs.Lines.{IsSkipped}
use Rattle.trace_text.specs.Shapes.{TraceShape}
use Rattle.trace_text.specs.SpelledLines.{IsInitLine, IsTickLine}
use Rattle.trace_text.specs.LineFaults.{line_faults}
use Rattle.trace_text.specs.TraceSpells.{TraceSpells}
use Rattle.trace_text.specs.BadLine.{BadLine}

-- a line is spelled in its place exactly where nothing is wrong with it: skipped, an init line that no tick comes before, or a tick
abbrev pub LineIsSpelledOrBad : Type 0
LineIsSpelledOrBad =
    (shape : TraceShape) (after : Bool) (line : List ℕ)
    → (line_faults shape after line ≡ [])
    ↔ (IsSkipped line ⊎ (((after ≡ false) × ((place : ℕ) × (value : ℕ) × IsInitLine shape line place value)) ⊎ ((tick : Tick) × IsTickLine shape line tick)))

-- bytes spell a trace, or have a first bad line
abbrev pub TraceIsSpelledOrBad : Type 0
TraceIsSpelledOrBad =
    (bytes : List ℕ) (shape : TraceShape)
    → ((init : List ℕ) × (ticks : List Tick) × TraceSpells bytes shape init ticks)
    ⊎ ((init : List ℕ) × (ticks : List Tick) × (fault : TraceFault) × BadLine bytes shape init ticks fault)

-- not both, and one of each at most
abbrev pub SpelledIsNotBad : Type 0
SpelledIsNotBad =
    (bytes : List ℕ) (shape : TraceShape) (init other : List ℕ) (ticks others : List Tick) (fault : TraceFault)
    → TraceSpells bytes shape init ticks → BadLine bytes shape other others fault → ⊥

abbrev pub SpellsOneTrace : Type 0
SpellsOneTrace =
    (bytes : List ℕ) (shape : TraceShape) (init other : List ℕ) (ticks others : List Tick)
    → TraceSpells bytes shape init ticks → TraceSpells bytes shape other others → (init ≡ other) × (ticks ≡ others)

abbrev pub ShowsOneBadLine : Type 0
ShowsOneBadLine =
    (bytes : List ℕ) (shape : TraceShape) (init other : List ℕ) (ticks others : List Tick) (fault another : TraceFault)
    → BadLine bytes shape init ticks fault → BadLine bytes shape other others another → (init ≡ other) × (ticks ≡ others) × (fault ≡ another)
