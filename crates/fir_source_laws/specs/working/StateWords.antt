-- What is said of the state of a design at a tick: which clocks rise, and what the words are behind the tick (FIRRTL spec, "Registers", "Memories",
-- "Clock Type").
use Rattle.std.specs.Prelude.{◌≡◌, ℕ, List, [], Option, Some}
use Rattle.fir_base.specs.Lists.{In}
use Rattle.fir_ast.specs.Expressions.{Expression}
use Rattle.fir_meaning.specs.LeafPaths.{LeafPath}
use Rattle.fir_meaning.specs.TypedScopes.{TypedScope}
use Rattle.fir_meaning.specs.SourceAllows.{next}
use Rattle.fir_meaning.specs.SourceDesigns.{SourceDesign}
use Rattle.fir_meaning.specs.SourceValues.{PathEnv, value_at, word_before, word_of}

-- the clock is one, and its number is among those that rise
pub record HasEdge (edges : List ℕ) (clock : Option ℕ) : Type 0 where
  pub clock_number : ℕ
  pub is : clock ≡ Some clock_number
  pub rises : In edges clock_number

-- an expression in the module of the instance at a path is 1
abbrev pub IsOne : SourceDesign → PathEnv → LeafPath → TypedScope → Expression → Type 0
IsOne t env at scope e = (value_at t env at scope e []).value.number ≡ 1

-- the word of a leaf, and of an array at an address, behind a tick
module _ (t : SourceDesign) (state : List ℕ) (edges : List ℕ) (env : PathEnv) where
  abbrev pub word_behind_tick : LeafPath → ℕ
  word_behind_tick x = word_of t env (next t state edges env) x

  abbrev pub array_behind_tick : LeafPath → ℕ → ℕ
  array_behind_tick x address = word_before t (next t state edges env) x address
