-- Ticks and runs, for circuits of both languages.
-- At a tick the inputs have values and some clocks rise. It shows the numbers of the outputs, and beside them the clock of each output that is one: the number
-- of a clock input, or none. A run takes one tick after the other.
use Rattle.std.specs.Prelude.{ℕ, ◌+◌, ◌^◌, ◌<◌, ◌≤◌, List, [], ◌∷◌, Bool, nat_eq, Option}
use Rattle.std.specs.List.{list_any}

-- a value for each name
abbrev pub Env : Type 0
Env = List ℕ → ℕ

-- the values of the inputs in port order, and the numbers of the clocks that rise
pub record Tick : Type 0 where
  pub inputs : List ℕ
  pub clocks : List ℕ

-- the widths of the inputs in port order, the number of clock inputs, and the widths of the state's words
pub record Shape : Type 0 where
  pub inputs : List ℕ
  pub clocks : ℕ
  pub state : List ℕ

-- as many values as widths, each below two to the power of its width
abbrev pub FitEach : List ℕ → List ℕ → Type 0
FitEach [] [] = Unit {0}
FitEach (w ∷ ws) (v ∷ vs) = (v < 2 ^ w) × FitEach ws vs
FitEach _ _ = ⊥

-- rising numbers, from low on, of clocks of which there are count
abbrev pub AreClocks : ℕ → ℕ → List ℕ → Type 0
AreClocks low count [] = Unit {0}
AreClocks low count (k ∷ ks) = (low ≤ k) × (k < count) × AreClocks (k + 1) count ks

-- whether the clock of that number is among those that rise
abbrev pub rises : List ℕ → ℕ → Bool
rises named clock = list_any (nat_eq clock) named

-- a state and a tick of that shape
pub record HasShape (shape : Shape) (state : List ℕ) (tick : Tick) : Type 0 where
  pub inputs_fit : FitEach shape.inputs tick.inputs
  pub clocks_rise : AreClocks 0 shape.clocks tick.clocks
  pub state_fits : FitEach shape.state state

-- which outputs, which clocks of outputs and which next state a state and a tick allow
abbrev pub Allowance : Type 1
Allowance = List ℕ → Tick → List ℕ → List (Option ℕ) → List ℕ → Type 0

-- what one tick shows: the outputs and the clocks of those that are clocks, and the state after it
pub record TickResult : Type 0 where
  pub outputs : List ℕ
  pub clocks : List (Option ℕ)
  pub state : List ℕ

-- tick for tick what is allowed, from an initial state on
abbrev pub IsRun : Allowance → List ℕ → List Tick → List TickResult → Type 0
IsRun allows state [] [] = Unit {0}
IsRun allows state (tick ∷ ticks) (shown ∷ rest) =
    allows state tick shown.outputs shown.clocks shown.state × IsRun allows shown.state ticks rest
IsRun allows state _ _ = ⊥
