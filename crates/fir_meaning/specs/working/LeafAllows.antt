-- What a leaf circuit allows at a tick, and over a run (FIRRTL spec, "Circuits", "Clock Type").
-- Some settled values show the numbers of the outputs and the clocks of those that are clocks, and the next state follows from them.
use Rattle.std.specs.Prelude.{◌≡◌, ℕ, List, [], ◌∷◌, map}
use Rattle.fir_base.specs.Ticks.{Allowance, AreClocks, FitEach, HasShape, IsRun, Tick, TickResult}
use Rattle.fir_meaning.specs.working.TermValues.{Env}
use Rattle.fir_meaning.specs.working.LeafCircuits.{LeafCircuit}
use Rattle.fir_meaning.specs.working.LeafStates.{shape}
use Rattle.fir_meaning.specs.working.LeafSettled.{Settled}
use Rattle.fir_meaning.specs.working.LeafNext.{next}

-- some settled values show the outputs and their clocks, and the next state follows from them
abbrev pub Allows : LeafCircuit → Allowance
Allows c state tick shown clocks_shown after =
    (env : Env) × Settled c state tick env
    × (map env.numbers c.outputs ≡ shown) × (map env.clocks c.clock_outputs ≡ clocks_shown) × (next c state tick env ≡ after)

abbrev pub Run : LeafCircuit → List ℕ → List Tick → List TickResult → Type 0
Run c = IsRun (Allows c)

-- some values are settled, and any two are the same at every number
pub record HasOne (c : LeafCircuit) (state : List ℕ) (tick : Tick) : Type 0 where
  pub env : Env
  pub settled : Settled c state tick env
  pub same : (e f : Env) → Settled c state tick e → Settled c state tick f → (x : ℕ) → e.numbers x ≡ f.numbers x
  pub same_clocks : (e f : Env) → Settled c state tick e → Settled c state tick f → (x : ℕ) → e.clocks x ≡ f.clocks x

-- at every state and tick of the circuit's shape exactly one choice of values is settled
abbrev pub One : LeafCircuit → Type 0
One c = (state : List ℕ) (tick : Tick) → HasShape (shape c) state tick → HasOne c state tick

-- inputs and clocks of the circuit's shape
pub record IsTick (c : LeafCircuit) (tick : Tick) : Type 0 where
  pub inputs_fit : FitEach (shape c).inputs tick.inputs
  pub clocks_rise : AreClocks 0 (shape c).clocks tick.clocks

abbrev pub AreTicks : LeafCircuit → List Tick → Type 0
AreTicks c [] = Unit {0}
AreTicks c (t ∷ ts) = IsTick c t × AreTicks c ts

-- there is exactly one run from a state through the ticks
pub record HasRun (c : LeafCircuit) (state : List ℕ) (ticks : List Tick) : Type 0 where
  pub shown : List TickResult
  pub run : Run c state ticks shown
  pub same : (others : List TickResult) → Run c state ticks others → others ≡ shown
