-- The leaf circuit of a design allows what the tree of its source modules allows (FIRRTL spec, "Circuits", "Instances").
use Rattle.std.specs.Prelude.{◌≡◌, ◌↔◌, ℕ, List, [], Option}
use Rattle.fir_base.specs.Lists.{In}
use Rattle.fir_base.specs.Ticks.{Tick}
use Rattle.fir_ast.specs.Circuits.{CircuitTree}
use Rattle.fir_meaning.specs.working.NameGroups.{HasNames}
use Rattle.fir_meaning.specs.TypeGroup.{type_faults}
use Rattle.fir_meaning.specs.working.Designs.{Design}
use Rattle.fir_meaning.specs.working.Flattened.{flattened}
use Rattle.fir_meaning.specs.working.LeafAllows as over
use Rattle.fir_meaning.specs.working.LeafStates.{shape}
use Rattle.fir_meaning.specs.ModuleScenes.{Scene}
use Rattle.fir_meaning.specs.Elaborated.{AreScenes}
use Rattle.fir_design.specs.working.CircuitDesigns.{IsSoundDesign}
use Rattle.fir_meaning.specs.SourceAllows.{Allows}
use Rattle.fir_meaning.specs.SourceCircuits.{source_shape}
use Rattle.fir_meaning.specs.SourceDesigns.{IsSourceDesignOf, SourceDesign}

-- a sound design of a module of a circuit without a fault of names or types, and the tree below that module
pub record AreDesigns (c : CircuitTree) (d : Design) (t : SourceDesign) : Type 0 where
  pub names : HasNames c
  pub types : type_faults c ≡ []
  pub scenes : List Scene
  pub are : AreScenes c scenes
  pub main : Scene
  pub among : In scenes main
  pub design : IsSoundDesign scenes main d
  pub tree : IsSourceDesignOf scenes main t

-- they have one shape
abbrev pub SameShape : Type 0
SameShape = (c : CircuitTree) (d : Design) (t : SourceDesign) → AreDesigns c d t → shape (flattened d) ≡ source_shape t

-- and allow the same
abbrev pub SameAllows : Type 0
SameAllows =
    (c : CircuitTree) (d : Design) (t : SourceDesign) (state : List ℕ) (tick : Tick) (shown : List ℕ) (clocks_shown : List (Option ℕ)) (after : List ℕ)
    → AreDesigns c d t → Allows t state tick shown clocks_shown after ↔ over.Allows (flattened d) state tick shown clocks_shown after
