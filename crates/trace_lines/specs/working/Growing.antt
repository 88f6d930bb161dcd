-- A run and its lines grow tick by tick.
use Rattle.std.specs.Prelude.{◌≡◌, ℕ, List, [], ◌∷◌, ◌++◌, Bool}
use Rattle.fir_base.specs.Ticks.{Tick, TickResult, Allowance, IsRun}
use Rattle.trace_text.specs.RunLines.{shown_text, run_text}
use Rattle.trace_lines.specs.Runs.{last_state}

-- what is allowed from the state that a run leaves makes it one tick longer
abbrev pub RunsGrow : Allowance → Type 0
RunsGrow allows =
    (init : List ℕ) (ticks : List Tick) (shown : List TickResult) (tick : Tick) (last : TickResult) → IsRun allows init ticks shown
    → allows (last_state init shown) tick last.outputs last.clocks last.state → IsRun allows init (ticks ++ tick ∷ []) (shown ++ last ∷ [])

abbrev pub LastIsLeft : Type 0
LastIsLeft = (init : List ℕ) (shown : List TickResult) (last : TickResult) → last_state init (shown ++ last ∷ []) ≡ last.state

abbrev pub LinesGrow : Type 0
LinesGrow =
    (outputs state : List ℕ) (with_state : Bool) (shown : List TickResult) (last : TickResult)
    → run_text outputs state with_state (shown ++ last ∷ []) ≡ run_text outputs state with_state shown ++ shown_text outputs state with_state last
