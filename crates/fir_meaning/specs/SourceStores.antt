-- What the statements of the modules of a tree of designs store, by the paths of leaves from the main module on (FIRRTL spec, "Connects", "Partial Connects",
-- "Invalidates", "Conditional Last Connect Semantics", "Instances").
-- The statements of a module go in order, and a connect overwrites what stands at the leaves that it drives. `taken` has the truth of each when round the
-- statement in its module, outermost first; a leaf counts those from its own declaration inward. The statements of an instance's module stand in the place of
-- the instance, and the whens round that condition nothing in it. All values are read from the settled ones. An invalid stores zero, or no clock, and an index
-- that is out of range writes nothing: each is a choice of this project.
use Rattle.std.specs.Prelude.{ℕ, List, [], ◌∷◌, ◌++◌, Bool, not, if◌then◌else◌, Option, Some, None}
use Rattle.std.specs.Str.{bytes_eq}
use Rattle.fir_ast.specs.Types.{DataType}
use Rattle.fir_ast.specs.Expressions.{Expression}
use Rattle.fir_ast.specs.Statements.{SinkReference, Statement, instance, when, connect, partial_connect, invalid, Block, done, then}
use Rattle.fir_bits.specs.Operators.{no_operand}
use Rattle.fir_meaning.specs.ConnectPairs.{Pair, pairs, partial_pairs}
use Rattle.fir_meaning.specs.Values.{is_high, fit}
use Rattle.fir_meaning.specs.ExpressionTypes.{expression_type}
use Rattle.fir_meaning.specs.LeafPaths.{LeafPath, named}
use Rattle.fir_meaning.specs.TypeGroup.{scope_at}
use Rattle.fir_meaning.specs.TypeLeaves.{TypeLeaf, type_leaves}
use Rattle.fir_meaning.specs.TypedScopes.{TypedScope}
use Rattle.fir_meaning.specs.Visibility.{Before, opened, reopened, behind, behind_block}
use Rattle.fir_meaning.specs.PathStores.{DesignStore, kept_at}
use Rattle.fir_meaning.specs.CountedWhens.{counts}
use Rattle.fir_meaning.specs.FoundTypes.{type_where}
use Rattle.fir_meaning.specs.ModuleScenes.{Scene, behind_all_ports}
use Rattle.fir_meaning.specs.TreeAims.{Aim}
use Rattle.fir_meaning.specs.SamePaths.{may_be_driven}
use Rattle.fir_meaning.specs.TreeValues.{TypesByPath, ValuesByPath, aim_of, aim_read, aim_value, leaf_where, value}
use Rattle.fir_meaning.specs.SourceDesigns.{Instances, SourceDesign, held, made_of, no_instances}
use Rattle.fir_meaning.specs.SourceFacts.{source_depth, source_may_drive}

-- what a function of paths from the main module on is below the instance at a path
abbrev pub below : {A : Type 0} → LeafPath → (LeafPath → A) → LeafPath → A
below path f q = f (path ++ q)

-- what an expression, what a sink names, and an invalid give to a leaf, all by paths in one module
pub record Gifts (V : Type 0) : Type 0 where
  pub of_expression : TypedScope → Expression → LeafPath → LeafPath → V
  pub of_sink : TypedScope → SinkReference → LeafPath → LeafPath → V
  pub of_invalid : LeafPath → V

-- of one module: its scene, the types and values of its leaves, what it gives, its path, and what the instance of a name stores
module _ {V : Type 0} (s : Scene) (holds : TypesByPath) (env : ValuesByPath) (gifts : Gifts V) (path : LeafPath)
    (child : List ℕ → DesignStore V → DesignStore V) where
  abbrev pub source_kept : Option LeafPath → (LeafPath → V) → List Bool → DesignStore V → DesignStore V
  source_kept None give taken store = store
  source_kept (Some x) give taken store = if counts (source_depth s x) taken then kept_at (path ++ x) (give x) store else store

  -- a flipped leaf is driven on the right side, from the left
  abbrev pub source_pair : TypedScope → SinkReference → Expression → List Bool → Pair → DesignStore V → DesignStore V
  source_pair scope sink e taken pair store =
      if pair.left.flip
      then source_kept (leaf_where (aim_read scope holds env e) pair.right.path) (gifts.of_sink scope sink pair.left.path) taken store
      else source_kept (leaf_where (aim_of scope holds env sink).at pair.left.path) (gifts.of_expression scope e pair.right.path) taken store

  abbrev pub source_pairs : TypedScope → SinkReference → Expression → List Bool → List Pair → DesignStore V → DesignStore V
  source_pairs scope sink e taken [] store = store
  source_pairs scope sink e taken (pair ∷ rest) store = source_pairs scope sink e taken rest (source_pair scope sink e taken pair store)

  abbrev pub source_connect : (DataType → DataType → List Pair) → TypedScope → SinkReference → Expression → List Bool → DesignStore V → DesignStore V
  source_connect pairs_of scope sink e taken store =
      source_pairs scope sink e taken (pairs_of (aim_of scope holds env sink).data_type (type_where (expression_type scope e).has)) store

  -- each leaf that may be driven, of which all elements are of one kind
  abbrev pub source_invalidated : Aim → LeafPath → List Bool → DesignStore V → DesignStore V
  source_invalidated a q taken store =
      if may_be_driven (source_may_drive s) (leaf_where a.first q) then source_kept (leaf_where a.at q) gifts.of_invalid taken store else store

  abbrev pub source_invalid : Aim → List Bool → List TypeLeaf → DesignStore V → DesignStore V
  source_invalid a taken [] store = store
  source_invalid a taken (l ∷ ls) store = source_invalid a taken ls (source_invalidated a l.path taken store)

  abbrev pub source_is_taken : TypedScope → Expression → Bool
  source_is_taken scope c = is_high (value scope holds env c [] ∷ [])

  abbrev mutual
    pub exec_source : Before → Statement → List Bool → DesignStore V → DesignStore V
    exec_source before (connect p sink e) taken store = source_connect pairs (scope_at s.own.modules before) sink e taken store
    exec_source before (partial_connect p sink e) taken store = source_connect partial_pairs (scope_at s.own.modules before) sink e taken store
    exec_source before (invalid p sink) taken store =
        source_invalid (aim_of (scope_at s.own.modules before) holds env sink) taken
        (type_leaves (aim_of (scope_at s.own.modules before) holds env sink).data_type) store
    exec_source before (when p c a b) taken store =
        exec_source_all (reopened before (behind_block (opened before) a)) b (taken ++ not (source_is_taken (scope_at s.own.modules before) c) ∷ [])
        (exec_source_all (opened before) a (taken ++ source_is_taken (scope_at s.own.modules before) c ∷ []) store)
    exec_source before (instance p n other) taken store = child n.name store
    exec_source before _ taken store = store

    pub exec_source_all : Before → Block → List Bool → DesignStore V → DesignStore V
    exec_source_all before done taken store = store
    exec_source_all before ((then) x b) taken store = exec_source_all (behind before x) b taken (exec_source before x taken store)

-- of a design, from the path of its instance on; the gifts are told by the types and values below a path
module _ {V : Type 0} (holds : TypesByPath) (env : ValuesByPath) (gifts : LeafPath → Gifts V) where
  abbrev mutual
    pub exec_design : LeafPath → SourceDesign → DesignStore V → DesignStore V
    exec_design path (made_of s is) store =
        exec_source_all s (below path holds) (below path env) (gifts path) path (exec_instances path is) (behind_all_ports s.own.inside) s.own.inside.body []
        store

    -- of the instance of a name
    pub exec_instances : LeafPath → Instances → List ℕ → DesignStore V → DesignStore V
    exec_instances path no_instances name store = store
    exec_instances path (held x d rest) name store =
        if bytes_eq x name then exec_design (path ++ named x ∷ []) d store else exec_instances path rest name store

-- numbers, each at the type of its sink
abbrev pub number_gifts : TypesByPath → ValuesByPath → LeafPath → Gifts ℕ
number_gifts holds env path = record {
  of_expression = λ scope e q x. fit (value scope (below path holds) (below path env) e q) (holds (path ++ x));
  of_sink = λ scope sink q x. fit (aim_value (below path holds) (below path env) (aim_of scope (below path holds) (below path env) sink) q) (holds (path ++ x));
  of_invalid = λ x. fit no_operand (holds (path ++ x));
}

-- the clock of a leaf, none where it is no leaf; an expression that is no reference gives none
abbrev pub clock_where : (LeafPath → Option ℕ) → Option LeafPath → Option ℕ
clock_where clocks None = None
clock_where clocks (Some x) = clocks x

abbrev pub clock_gifts : TypesByPath → ValuesByPath → (LeafPath → Option ℕ) → LeafPath → Gifts (Option ℕ)
clock_gifts holds env clocks path = record {
  of_expression = λ scope e q x. clock_where (below path clocks) (leaf_where (aim_read scope (below path holds) (below path env) e) q);
  of_sink = λ scope sink q x. clock_where (below path clocks) (leaf_where (aim_of scope (below path holds) (below path env) sink).at q);
  of_invalid = λ x. None;
}
