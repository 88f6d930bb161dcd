-- What the statements of a module store, by paths (FIRRTL spec, "Connects", "Partial Connects", "Invalidates", "Conditional Last Connect Semantics").
-- The statements go in order, and a connect overwrites what stands at the leaves that it drives. `taken` has the truth of each when round the statement in its
-- module, outermost first; a leaf counts those from its own declaration inward. All values are read from the settled ones.
use Rattle.std.specs.Prelude.{ℕ, List, [], ◌∷◌, ◌++◌, Bool, not, if◌then◌else◌, Option, Some, None}
use Rattle.fir_bits.specs.declared.values.Num.{Num}
use Rattle.fir_bits.specs.Operators.{no_operand}
use Rattle.fir_ast.specs.Types.{DataType}
use Rattle.fir_ast.specs.Expressions.{Expression}
use Rattle.fir_ast.specs.Statements.{SinkReference, Statement, when, connect, partial_connect, invalid, Block, done, then}
use Rattle.fir_ast.specs.Circuits.{ModuleTree}
use Rattle.fir_meaning.specs.LeafPaths.{LeafPath}
use Rattle.fir_meaning.specs.TypeLeaves.{TypeLeaf, type_leaves}
use Rattle.fir_meaning.specs.ConnectPairs.{Pair, pairs, partial_pairs}
use Rattle.fir_meaning.specs.Visibility.{Before, opened, reopened, behind, behind_block}
use Rattle.fir_meaning.specs.TypedScopes.{TypedScope}
use Rattle.fir_meaning.specs.TypeGroup.{scope_at}
use Rattle.fir_meaning.specs.ExpressionTypes.{expression_type}
use Rattle.fir_meaning.specs.Values.{is_high, fit}
use Rattle.fir_meaning.specs.CountedWhens.{counts}
use Rattle.fir_meaning.specs.FoundTypes.{type_where}
use Rattle.fir_meaning.specs.TreeAims.{Aim}
use Rattle.fir_meaning.specs.TreeValues.{TypesByPath, ValuesByPath, leaf_where, value, aim_of, aim_read, aim_value}
use Rattle.fir_meaning.specs.SamePaths.{same_path, may_be_driven}

-- what was stored at each leaf, if anything was
abbrev pub PathStore : Type 0
PathStore = LeafPath → Option ℕ

abbrev pub path_stored_at : LeafPath → ℕ → PathStore → PathStore
path_stored_at x v store y = if same_path x y then Some v else store y

-- of the leaves of a module: the type of each, how many whens stand round its declaration, and whether it may be driven
pub record LeafFacts : Type 0 where
  pub holds : TypesByPath
  pub depth : LeafPath → ℕ
  pub may_drive : LeafPath → Bool

module _ (facts : LeafFacts) (env : ValuesByPath) where
  abbrev pub path_stored : Option LeafPath → Num → List Bool → PathStore → PathStore
  path_stored None v taken store = store
  path_stored (Some x) v taken store = if counts (facts.depth x) taken then path_stored_at x (fit v (facts.holds x)) store else store

  -- a flipped leaf is driven on the right side, from the left
  abbrev pub exec_pair : TypedScope → SinkReference → Expression → List Bool → Pair → PathStore → PathStore
  exec_pair scope sink e taken pair store =
      if pair.left.flip
      then path_stored (leaf_where (aim_read scope facts.holds env e) pair.right.path)
      (aim_value facts.holds env (aim_of scope facts.holds env sink) pair.left.path) taken store
      else path_stored (leaf_where (aim_of scope facts.holds env sink).at pair.left.path) (value scope facts.holds env e pair.right.path) taken store

  abbrev pub exec_pairs : TypedScope → SinkReference → Expression → List Bool → List Pair → PathStore → PathStore
  exec_pairs scope sink e taken [] store = store
  exec_pairs scope sink e taken (pair ∷ rest) store = exec_pairs scope sink e taken rest (exec_pair scope sink e taken pair store)

  abbrev pub exec_connect : (DataType → DataType → List Pair) → TypedScope → SinkReference → Expression → List Bool → PathStore → PathStore
  exec_connect pairs_of scope sink e taken store =
      exec_pairs scope sink e taken (pairs_of (aim_of scope facts.holds env sink).data_type (type_where (expression_type scope e).has)) store

  -- zero on each leaf that may be driven, of which all elements are of one kind
  abbrev pub invalidated : Aim → LeafPath → List Bool → PathStore → PathStore
  invalidated a q taken store =
      if may_be_driven facts.may_drive (leaf_where a.first q) then path_stored (leaf_where a.at q) no_operand taken store else store

  abbrev pub exec_invalid : Aim → List Bool → List TypeLeaf → PathStore → PathStore
  exec_invalid a taken [] store = store
  exec_invalid a taken (l ∷ ls) store = exec_invalid a taken ls (invalidated a l.path taken store)

  abbrev pub is_taken : TypedScope → Expression → Bool
  is_taken scope c = is_high (value scope facts.holds env c [] ∷ [])

  module _ (modules : List ModuleTree) where
    abbrev mutual
      pub exec_tree : Before → Statement → List Bool → PathStore → PathStore
      exec_tree before (connect p sink e) taken store = exec_connect pairs (scope_at modules before) sink e taken store
      exec_tree before (partial_connect p sink e) taken store = exec_connect partial_pairs (scope_at modules before) sink e taken store
      exec_tree before (invalid p sink) taken store =
          exec_invalid (aim_of (scope_at modules before) facts.holds env sink) taken (type_leaves (aim_of (scope_at modules before) facts.holds env sink).data_type)
          store
      exec_tree before (when p c a b) taken store =
          exec_tree_all (reopened before (behind_block (opened before) a)) b (taken ++ not (is_taken (scope_at modules before) c) ∷ [])
          (exec_tree_all (opened before) a (taken ++ is_taken (scope_at modules before) c ∷ []) store)
      exec_tree before _ taken store = store

      pub exec_tree_all : Before → Block → List Bool → PathStore → PathStore
      exec_tree_all before done taken store = store
      exec_tree_all before ((then) x b) taken store = exec_tree_all (behind before x) b taken (exec_tree before x taken store)
