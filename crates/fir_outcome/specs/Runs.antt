-- When exactly one run goes from a state through ticks.
use Rattle.std.specs.Prelude.{◌≡◌, ℕ, List}
use Rattle.std.specs.List.{AllByRecursion}
use Rattle.fir_base.specs.Ticks.{Tick, TickResult, Shape, FitEach, AreClocks, Allowance, IsRun}

-- a tick of a shape
pub record IsTick (shape : Shape) (tick : Tick) : Type 0 where
  pub inputs_fit : FitEach shape.inputs tick.inputs
  pub clocks_rise : AreClocks 0 shape.clocks tick.clocks

-- there is a run, and each run is this one
pub record HasOneRun (allows : Allowance) (state : List ℕ) (ticks : List Tick) : Type 0 where
  pub shown : List TickResult
  pub run : IsRun allows state ticks shown
  pub only : (others : List TickResult) → IsRun allows state ticks others → others ≡ shown

-- from each state of the shape through all ticks of it, however many
abbrev pub RunsOnce : Shape → Allowance → Type 0
RunsOnce shape allows =
    (state : List ℕ) (ticks : List Tick) → FitEach shape.state state → AllByRecursion (IsTick shape) ticks → HasOneRun allows state ticks
