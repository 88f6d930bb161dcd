-- Which words of the state of a source have a block in its Verilog (FIRRTL spec, "Registers", "Memories", "Last Connect Semantics", "Clock Type"): registers with an
-- asynchronous reset; those that have a clock and that some statement may drive, under whatever choice, or that have a reset; and what the port of a memory has read,
-- where the port has a clock. The others hold what they show.
use Rattle.std.specs.Prelude.{◌≡◌, ◌↔◌, ◌⊎◌, ℕ, List, [], ◌∷◌, ◌++◌, Bool, true, false, IsTrue, IsSome, Option, Some, None}
use Rattle.fir_base.specs.Lists.{In}
use Rattle.fir_base.specs.Ticks.{Tick}
use Rattle.fir_meaning.specs.SourceAllows.{Settled}
use Rattle.fir_meaning.specs.SourceCircuits.{PlacedLeaf}
use Rattle.fir_meaning.specs.SourceDependence.{PlacedModule, all_modules}
use Rattle.fir_meaning.specs.SourceDesigns.{SourceDesign}
use Rattle.fir_meaning.specs.SourceRoles.{SourceReset, SourceRole, pipe, register}
use Rattle.fir_meaning.specs.SourceValues.{PathEnv, clock_at}
use Rattle.fir_meaning.specs.TakingRegisters.{takes_value}

abbrev pub is_async : Option SourceReset → Bool
is_async None = false
is_async (Some r) = r.is_async

-- a register that is reset as soon as a condition is 1
abbrev pub is_reset_at_once : SourceRole → Bool
is_reset_at_once (register scope clock reset q) = is_async reset
is_reset_at_once _ = false

-- what the port of a memory has read at the last edge of its clock
abbrev pub is_pipe : SourceRole → Bool
is_pipe (pipe r clock under) = true
is_pipe _ = false

module _ (t : SourceDesign) where
  -- in the module that declares it a statement may drive it, or it has a reset
  pub record IsTaking (p : PlacedLeaf) : Type 0 where
    pub holder : PlacedModule
    pub among : In (all_modules t) holder
    pub is_at : holder.at ≡ p.at
    pub takes : IsTrue (takes_value holder.scene p.leaf)

  -- its clock is one of the main module's, in all settled values
  abbrev pub IsClocked : PlacedLeaf → SourceRole → Type 0
  IsClocked p (register scope clock reset q) =
      (state : List ℕ) (tick : Tick) (env : PathEnv) → Settled t state tick env → IsSome (clock_at t env p.at scope clock [])
  IsClocked p (pipe r clock under) =
      (state : List ℕ) (tick : Tick) (env : PathEnv) → Settled t state tick env → IsSome (env.clocks (p.at ++ clock))
  IsClocked p _ = ⊥

  -- at an edge of its clock it takes a value
  abbrev pub TakesValue : PlacedLeaf → Type 0
  TakesValue p = IsTaking p ⊎ IsTrue (is_pipe p.leaf.role)

  abbrev pub HasBlock : PlacedLeaf → Type 0
  HasBlock p = IsTrue (is_reset_at_once p.leaf.role) ⊎ (TakesValue p × IsClocked p p.leaf.role)

  -- for each whether it has one
  abbrev pub HaveBlocks : List Bool → List PlacedLeaf → Type 0
  HaveBlocks [] [] = Unit {0}
  HaveBlocks (b ∷ bs) (p ∷ ps) = (IsTrue b ↔ HasBlock p) × HaveBlocks bs ps
  HaveBlocks _ _ = ⊥
