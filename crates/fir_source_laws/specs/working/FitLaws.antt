-- What a connect makes of a value, and what an invalid stores (FIRRTL spec, "Connects", "Invalidates").
-- A narrower value is extended by its own sign, so that it stands for the same integer; a wider one is cut to its low bits. An invalid gives zero, or no clock.
use Rattle.std.specs.Prelude.{◌≡◌, ℕ, ◌^◌, ◌%◌, ◌<◌, ◌≤◌, List, ◌++◌, length, Bool, true, false, Option, Some, None}
use Rattle.fir_base.specs.Lists.{In}
use Rattle.fir_bits.specs.declared.types.NumTy.{NumTy}
use Rattle.fir_bits.specs.declared.values.Num.{Num}
use Rattle.fir_bits.specs.Integers.{reading}
use Rattle.fir_bits.specs.Values.{IsBitVector}
use Rattle.fir_ast.specs.declared.place.Place.{Place}
use Rattle.fir_ast.specs.Expressions.{Expression}
use Rattle.fir_ast.specs.Statements.{SinkReference, invalid}
use Rattle.fir_meaning.specs.LeafPaths.{LeafPath}
use Rattle.fir_meaning.specs.TypeGroup.{scope_at}
use Rattle.fir_meaning.specs.TypeLeaves.{TypeLeaf, type_leaves}
use Rattle.fir_meaning.specs.TypedScopes.{TypedScope}
use Rattle.fir_meaning.specs.Visibility.{Before}
use Rattle.fir_meaning.specs.PathStores.{DesignStore}
use Rattle.fir_meaning.specs.ModuleScenes.{Scene}
use Rattle.fir_meaning.specs.SamePaths.{may_be_driven}
use Rattle.fir_meaning.specs.TreeValues.{TypesByPath, ValuesByPath, aim_of, aim_value, leaf_where, value}
use Rattle.fir_meaning.specs.SourceFacts.{source_depth, source_may_drive}
use Rattle.fir_meaning.specs.SourceStores.{Gifts, below, clock_gifts, exec_source, number_gifts}

-- a number of a type that a value fits
pub record IsFit (v : Num) (t : NumTy) (n : ℕ) : Type 0 where
  pub extended : v.value.width ≤ t.width → reading v.signed t.width n ≡ reading v.signed v.value.width v.value.number
  pub cut : t.width < v.value.width → n ≡ v.value.number % 2 ^ t.width
  pub within : n < 2 ^ t.width

-- what an expression gives to a leaf, and what a sink gives to a flipped one
abbrev pub ConnectsFit : Type 0
ConnectsFit =
    (holds : TypesByPath) (env : ValuesByPath) (path : LeafPath) (scope : TypedScope) (q x : LeafPath)
    → ((e : Expression) → IsBitVector (value scope (below path holds) (below path env) e q).value
    → IsFit (value scope (below path holds) (below path env) e q) (holds (path ++ x)) ((number_gifts holds env path).of_expression scope e q x))
    × ((sink : SinkReference)
    → IsBitVector (aim_value (below path holds) (below path env) (aim_of scope (below path holds) (below path env) sink) q).value
    → IsFit (aim_value (below path holds) (below path env) (aim_of scope (below path holds) (below path env) sink) q) (holds (path ++ x))
    ((number_gifts holds env path).of_sink scope sink q x))

-- an invalid stores one thing at each leaf that it names and that may be driven: zero as a number, and no clock
abbrev pub InvalidStoresOf : (V : Type 0) → Type 0
InvalidStoresOf V =
    (s : Scene) (holds : TypesByPath) (env : ValuesByPath) (gifts : Gifts V) (path : LeafPath) (child : List ℕ → DesignStore V → DesignStore V)
    (before : Before) (p : Place) (sink : SinkReference) (taken : List Bool) (store : DesignStore V) (l : TypeLeaf) (x : LeafPath)
    → In (type_leaves (aim_of (scope_at s.own.modules before) holds env sink).data_type) l
    → may_be_driven (source_may_drive s) (leaf_where (aim_of (scope_at s.own.modules before) holds env sink).first l.path) ≡ true
    → leaf_where (aim_of (scope_at s.own.modules before) holds env sink).at l.path ≡ Some x
    → length taken ≤ source_depth s x
    → exec_source s holds env gifts path child before (invalid p sink) taken store (path ++ x) ≡ Some (gifts.of_invalid x)

abbrev pub InvalidGives : Type 0
InvalidGives =
    (holds : TypesByPath) (env : ValuesByPath) (clocks : LeafPath → Option ℕ) (path x : LeafPath)
    → ((number_gifts holds env path).of_invalid x ≡ 0) × ((clock_gifts holds env clocks path).of_invalid x ≡ None)

abbrev pub InvalidStores : Type 0
InvalidStores = InvalidStoresOf ℕ × InvalidStoresOf (Option ℕ) × InvalidGives

-- a leaf that is a source stays as it was, where no index picks what is named
abbrev pub InvalidSparesSourcesOf : Type 0 → Type 0
InvalidSparesSourcesOf V =
    (s : Scene) (holds : TypesByPath) (env : ValuesByPath) (gifts : Gifts V) (path : LeafPath) (child : List ℕ → DesignStore V → DesignStore V)
    (before : Before) (p : Place) (sink : SinkReference) (taken : List Bool) (store : DesignStore V) (x : LeafPath)
    → (aim_of (scope_at s.own.modules before) holds env sink).at ≡ (aim_of (scope_at s.own.modules before) holds env sink).first
    → source_may_drive s x ≡ false
    → exec_source s holds env gifts path child before (invalid p sink) taken store (path ++ x) ≡ store (path ++ x)

abbrev pub InvalidSparesSources : Type 0
InvalidSparesSources = InvalidSparesSourcesOf ℕ × InvalidSparesSourcesOf (Option ℕ)
