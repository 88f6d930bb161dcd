-- What a tree of designs allows over a run, and when it has exactly one (FIRRTL spec, "Circuits", "Clock Type").
use Rattle.std.specs.Prelude.{◌≡◌, ◌↔◌, ℕ, List, [], ◌∷◌}
use Rattle.fir_base.specs.Ticks.{AreClocks, FitEach, IsRun, Tick, TickResult}
use Rattle.fir_ast.specs.Circuits.{CircuitTree}
use Rattle.fir_meaning.specs.working.Designs.{Design}
use Rattle.fir_meaning.specs.working.Flattened.{flattened}
use Rattle.fir_meaning.specs.working.LeafAllows as over
use Rattle.fir_design.specs.working.MeaningLaws.{AreDesigns}
use Rattle.fir_meaning.specs.SourceAllows.{Allows, Settled, next}
use Rattle.fir_meaning.specs.SourceCircuits.{source_shape}
use Rattle.fir_meaning.specs.SourceOne.{One}
use Rattle.fir_meaning.specs.SourceDesigns.{SourceDesign}
use Rattle.fir_meaning.specs.SourceValues.{PathEnv}

module _ (t : SourceDesign) where
  -- tick for tick what is allowed, from an initial state on
  abbrev pub Run : List ℕ → List Tick → List TickResult → Type 0
  Run = IsRun (Allows t)

  -- the state after a tick has the shape
  abbrev pub KeepsShape : Type 0
  KeepsShape = (state : List ℕ) (tick : Tick) (env : PathEnv) → Settled t state tick env → FitEach (source_shape t).state (next t state tick.clocks env)

  -- inputs and clocks of the shape
  pub record IsTick (tick : Tick) : Type 0 where
    pub inputs_fit : FitEach (source_shape t).inputs tick.inputs
    pub clocks_rise : AreClocks 0 (source_shape t).clocks tick.clocks

  abbrev pub AreTicks : List Tick → Type 0
  AreTicks [] = Unit {0}
  AreTicks (k ∷ ks) = IsTick k × AreTicks ks

  -- there is exactly one run from a state through the ticks
  pub record HasRun (state : List ℕ) (ticks : List Tick) : Type 0 where
    pub shown : List TickResult
    pub run : Run state ticks shown
    pub same : (others : List TickResult) → Run state ticks others → others ≡ shown

-- exactly one choice of values is settled in the source where it is in its leaf circuit
abbrev pub SameOne : Type 0
SameOne = (c : CircuitTree) (d : Design) (t : SourceDesign) → AreDesigns c d t → One t ↔ over.One (flattened d)

-- and then, where the shape is kept, there is exactly one run of every length from each state of the shape
abbrev pub OneHasRun : Type 0
OneHasRun =
    (c : CircuitTree) (d : Design) (t : SourceDesign) (state : List ℕ) (ticks : List Tick) → AreDesigns c d t → One t → KeepsShape t
    → FitEach (source_shape t).state state → AreTicks t ticks → HasRun t state ticks
