-- When a source has exactly one choice of values (FIRRTL spec, "Circuits", "Last Connect Semantics").
use Rattle.std.specs.Prelude.{◌≡◌, ℕ, List}
use Rattle.fir_base.specs.Ticks.{HasShape, Tick}
use Rattle.fir_meaning.specs.LeafPaths.{LeafPath}
use Rattle.fir_meaning.specs.SourceAllows.{Settled}
use Rattle.fir_meaning.specs.SourceCircuits.{source_shape}
use Rattle.fir_meaning.specs.SourceDesigns.{SourceDesign}
use Rattle.fir_meaning.specs.SourceValues.{PathEnv}

module _ (t : SourceDesign) where
  -- some values are settled, and any two are the same at every path
  pub record HasOne (state : List ℕ) (tick : Tick) : Type 0 where
    pub env : PathEnv
    pub settled : Settled t state tick env
    pub same : (e f : PathEnv) → Settled t state tick e → Settled t state tick f → (x : LeafPath) → e.numbers x ≡ f.numbers x
    pub same_clocks : (e f : PathEnv) → Settled t state tick e → Settled t state tick f → (x : LeafPath) → e.clocks x ≡ f.clocks x

  -- at every state and tick of the shape exactly one choice of values is settled
  abbrev pub One : Type 0
  One = (state : List ℕ) (tick : Tick) → HasShape (source_shape t) state tick → HasOne state tick
