-- What a register holds and shows (FIRRTL spec, "Registers", "Clock Type").
-- It keeps its word where its clock has no edge. At an edge it takes its init while a synchronous reset is 1, else what is stored, else what it holds. While an
-- asynchronous reset is 1 it shows its init, and its init is its word behind the tick; once the reset is 0 again, it shows the init that it kept.
use Rattle.std.specs.Prelude.{◌≡◌, ℕ, List, [], Bool, true, false, Option, Some, None}
use Rattle.fir_base.specs.Lists.{Distinct, In}
use Rattle.fir_base.specs.Ticks.{Tick}
use Rattle.fir_bits.specs.declared.types.NumTy.{NumTy}
use Rattle.fir_ast.specs.Expressions.{Expression}
use Rattle.fir_meaning.specs.LeafTypes.{number}
use Rattle.fir_meaning.specs.LeafPaths.{LeafPath}
use Rattle.fir_meaning.specs.TypedScopes.{TypedScope}
use Rattle.fir_meaning.specs.Values.{fit}
use Rattle.fir_meaning.specs.SourceAllows.{Settled, next}
use Rattle.fir_meaning.specs.SourceCircuits.{PlacedLeaf, all_leaves, leaf_path, paths_of, state_words}
use Rattle.fir_meaning.specs.SourceDesigns.{SourceDesign}
use Rattle.fir_meaning.specs.SourceRoles.{SourceReset, register}
use Rattle.fir_meaning.specs.SourceValues.{PathEnv, clock_at, number_stored, value_at, word_of}
use Rattle.fir_source_laws.specs.working.StateWords.{HasEdge, IsOne, word_behind_tick}

-- a register of the design, with its clock, its reset and the path of the leaf in it; its path stands once among the leaves, and among the words of the state
pub record IsRegister (t : SourceDesign) (p : PlacedLeaf) (scope : TypedScope) (clock : Expression) (reset : Option SourceReset) (q : LeafPath) : Type 0 where
  pub among : In (all_leaves t) p
  pub once : Distinct (paths_of (all_leaves t))
  pub among_words : In (state_words t) p
  pub once_in_words : Distinct (paths_of (state_words t))
  pub role : p.leaf.role ≡ register scope clock reset q
  pub width : NumTy
  pub holds : p.leaf.holds ≡ number width

-- a reset of that kind is 1
abbrev pub IsReset : SourceDesign → PathEnv → LeafPath → Option SourceReset → Bool → Type 0
IsReset t env at None is_async = ⊥
IsReset t env at (Some r) is_async = (r.is_async ≡ is_async) × IsOne t env at r.scope r.condition

-- the init that a reset gives, at the type of the register
abbrev pub init_fitted : SourceDesign → PathEnv → LeafPath → SourceReset → LeafPath → NumTy → ℕ
init_fitted t env at r q type = fit (value_at t env at r.scope r.init q) type

module _ (t : SourceDesign) (p : PlacedLeaf) (scope : TypedScope) (clock : Expression) (q : LeafPath) where
  abbrev pub IsClocked : List ℕ → PathEnv → Type 0
  IsClocked edges env = HasEdge edges (clock_at t env p.at scope clock [])

  -- without an edge and an asynchronous reset
  abbrev pub KeepsWithoutEdge : Type 0
  KeepsWithoutEdge =
      (reset : Option SourceReset) (state edges : List ℕ) (env : PathEnv) → IsRegister t p scope clock reset q
      → (IsClocked edges env → ⊥) → (IsReset t env p.at reset true → ⊥)
      → word_behind_tick t state edges env (leaf_path p) ≡ word_of t env state (leaf_path p)

  -- at an edge without a reset
  abbrev pub TakesWhatIsStored : Type 0
  TakesWhatIsStored =
      (reset : Option SourceReset) (state edges : List ℕ) (env : PathEnv) (v : ℕ) → IsRegister t p scope clock reset q
      → IsClocked edges env → ((is_async : Bool) → IsReset t env p.at reset is_async → ⊥) → number_stored t env (leaf_path p) ≡ Some v
      → word_behind_tick t state edges env (leaf_path p) ≡ v

  abbrev pub HoldsWhereNothingIsStored : Type 0
  HoldsWhereNothingIsStored =
      (reset : Option SourceReset) (state : List ℕ) (tick : Tick) (env : PathEnv) → IsRegister t p scope clock reset q → Settled t state tick env
      → ((is_async : Bool) → IsReset t env p.at reset is_async → ⊥) → number_stored t env (leaf_path p) ≡ None
      → word_behind_tick t state tick.clocks env (leaf_path p) ≡ word_of t env state (leaf_path p)

  -- a synchronous reset wins over what is stored, at an edge alone
  abbrev pub IsResetAtEdge : Type 0
  IsResetAtEdge =
      (r : SourceReset) (state edges : List ℕ) (env : PathEnv) → (h : IsRegister t p scope clock (Some r) q)
      → IsReset t env p.at (Some r) false
      → (IsClocked edges env → word_behind_tick t state edges env (leaf_path p) ≡ init_fitted t env p.at r q h.width)
      × ((IsClocked edges env → ⊥) → word_behind_tick t state edges env (leaf_path p) ≡ word_of t env state (leaf_path p))

  -- a register shows its word, whether or not a synchronous reset is 1
  abbrev pub ShowsItsWord : Type 0
  ShowsItsWord =
      (reset : Option SourceReset) (state : List ℕ) (tick : Tick) (env : PathEnv) → IsRegister t p scope clock reset q → Settled t state tick env
      → (IsReset t env p.at reset true → ⊥)
      → env.numbers (leaf_path p) ≡ word_of t env state (leaf_path p)

  -- an asynchronous reset acts at once, with an edge or without
  abbrev pub ShowsInitAtOnce : Type 0
  ShowsInitAtOnce =
      (r : SourceReset) (state : List ℕ) (tick : Tick) (env : PathEnv) → (h : IsRegister t p scope clock (Some r) q) → Settled t state tick env
      → IsReset t env p.at (Some r) true
      → (env.numbers (leaf_path p) ≡ init_fitted t env p.at r q h.width)
      × (word_behind_tick t state tick.clocks env (leaf_path p) ≡ init_fitted t env p.at r q h.width)

  -- a tick with the reset 1, and then one with the reset 0: the init shows on both, and behind both where the second has no edge
  abbrev pub KeepsItsInit : Type 0
  KeepsItsInit =
      (r : SourceReset) (state : List ℕ) (first second : Tick) (env later : PathEnv) → (h : IsRegister t p scope clock (Some r) q)
      → Settled t state first env → IsReset t env p.at (Some r) true
      → Settled t (next t state first.clocks env) second later → (IsReset t later p.at (Some r) true → ⊥)
      → (env.numbers (leaf_path p) ≡ init_fitted t env p.at r q h.width) × (later.numbers (leaf_path p) ≡ init_fitted t env p.at r q h.width)
      × ((IsClocked second.clocks later → ⊥)
      → word_behind_tick t (next t state first.clocks env) second.clocks later (leaf_path p) ≡ init_fitted t env p.at r q h.width)

-- of every register
abbrev pub OfRegisters : (SourceDesign → PlacedLeaf → TypedScope → Expression → LeafPath → Type 0) → Type 0
OfRegisters Law = (t : SourceDesign) (p : PlacedLeaf) (scope : TypedScope) (clock : Expression) (q : LeafPath) → Law t p scope clock q
