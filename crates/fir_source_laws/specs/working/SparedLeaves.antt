-- Which leaves the statements of a module leave as they are, under settled values (FIRRTL spec, "Connects", "Partial Connects", "Invalidates",
-- "Conditional Last Connect Semantics").
-- A pair of a connect drives the leaf that its left side names, or, where that is flipped, the one that its right side names. A statement spares a leaf where
-- none of what it drives is that leaf, or the leaf counts a when that is not taken.
use Rattle.std.specs.Prelude.{◌≡◌, ℕ, List, [], ◌∷◌, ◌++◌, Bool, true, false, not, if◌then◌else◌, Option, Some, None}
use Rattle.std.specs.Str.{bytes_eq}
use Rattle.fir_base.specs.Lists.{In}
use Rattle.fir_ast.specs.Types.{DataType}
use Rattle.fir_ast.specs.Expressions.{Expression}
use Rattle.fir_ast.specs.Statements.{SinkReference, Statement, instance, when, connect, partial_connect, invalid, Block, done, then}
use Rattle.fir_meaning.specs.ConnectPairs.{Pair, pairs, partial_pairs}
use Rattle.fir_meaning.specs.ExpressionTypes.{expression_type}
use Rattle.fir_meaning.specs.LeafPaths.{LeafPath, named}
use Rattle.fir_meaning.specs.TypeGroup.{scope_at}
use Rattle.fir_meaning.specs.TypeLeaves.{TypeLeaf, type_leaves}
use Rattle.fir_meaning.specs.TypedScopes.{TypedScope}
use Rattle.fir_meaning.specs.Values.{is_high}
use Rattle.fir_meaning.specs.Visibility.{Before, opened, reopened, behind, behind_block}
use Rattle.fir_meaning.specs.PathStores.{DesignStore}
use Rattle.fir_meaning.specs.CountedWhens.{counts}
use Rattle.fir_meaning.specs.FoundTypes.{type_where}
use Rattle.fir_meaning.specs.ModuleScenes.{Scene, behind_all_ports}
use Rattle.fir_meaning.specs.TreeAims.{Aim}
use Rattle.fir_meaning.specs.SamePaths.{may_be_driven}
use Rattle.fir_meaning.specs.TreeValues.{TypesByPath, ValuesByPath, aim_of, aim_read, leaf_where, value}
use Rattle.fir_meaning.specs.SourceDesigns.{Instances, SourceDesign, held, made_of, no_instances}
use Rattle.fir_meaning.specs.SourceFacts.{source_depth, source_may_drive}
use Rattle.fir_meaning.specs.SourceStores.{Gifts, below}

-- one block behind the other
abbrev pub followed : Block → Block → Block
followed done b = b
followed ((then) x a) b = (then) x (followed a b)

-- what a pair gives to the leaf that it drives
abbrev pub gift : {V : Type 0} → Gifts V → TypedScope → SinkReference → Expression → Pair → LeafPath → V
gift gifts scope sink e pair =
    if pair.left.flip then gifts.of_sink scope sink pair.left.path else gifts.of_expression scope e pair.right.path

-- by the types and values of a module's leaves
module _ (holds : TypesByPath) (env : ValuesByPath) where
  abbrev pub driven : TypedScope → SinkReference → Expression → Pair → Option LeafPath
  driven scope sink e pair =
      if pair.left.flip
      then leaf_where (aim_read scope holds env e) pair.right.path
      else leaf_where (aim_of scope holds env sink).at pair.left.path

  abbrev pub pairs_between : (DataType → DataType → List Pair) → TypedScope → SinkReference → Expression → List Pair
  pairs_between pairs_of scope sink e = pairs_of (aim_of scope holds env sink).data_type (type_where (expression_type scope e).has)

  -- whether a condition is 1
  abbrev pub is_one : TypedScope → Expression → Bool
  is_one scope c = is_high (value scope holds env c [] ∷ [])

-- whether what the instance of a name stores spares a leaf
abbrev pub SparedBy : {V : Type 0} → (List ℕ → DesignStore V → DesignStore V) → LeafPath → List ℕ → Type 0
SparedBy {V} child x name = (store : DesignStore V) → child name store x ≡ store x

-- of the module of the instance at a path; the leaf has its path from the main module on
module _ (s : Scene) (holds : TypesByPath) (env : ValuesByPath) (path x : LeafPath) where
  abbrev pub SparesAt : List Bool → Option LeafPath → Type 0
  SparesAt taken None = Unit {0}
  SparesAt taken (Some y) = path ++ y ≡ x → counts (source_depth s y) taken ≡ false

  abbrev pub SparesPairs : TypedScope → SinkReference → Expression → List Bool → List Pair → Type 0
  SparesPairs scope sink e taken ps = (pair : Pair) → In ps pair → SparesAt taken (driven holds env scope sink e pair)

  -- of the leaves that an invalid names those that may be driven
  abbrev pub SparesNamed : Aim → List Bool → List TypeLeaf → Type 0
  SparesNamed a taken ls =
      (l : TypeLeaf) → In ls l → may_be_driven (source_may_drive s) (leaf_where a.first l.path) ≡ true → SparesAt taken (leaf_where a.at l.path)

  -- with whether the instance of a name spares it
  module _ (spared : List ℕ → Type 0) where
    abbrev mutual
      pub Spares : Before → Statement → List Bool → Type 0
      Spares before (connect p sink e) taken =
          SparesPairs (scope_at s.own.modules before) sink e taken (pairs_between holds env pairs (scope_at s.own.modules before) sink e)
      Spares before (partial_connect p sink e) taken =
          SparesPairs (scope_at s.own.modules before) sink e taken (pairs_between holds env partial_pairs (scope_at s.own.modules before) sink e)
      Spares before (invalid p sink) taken =
          SparesNamed (aim_of (scope_at s.own.modules before) holds env sink) taken
          (type_leaves (aim_of (scope_at s.own.modules before) holds env sink).data_type)
      Spares before (when p c a b) taken =
          SparesAll (opened before) a (taken ++ is_one holds env (scope_at s.own.modules before) c ∷ [])
          × SparesAll (reopened before (behind_block (opened before) a)) b (taken ++ not (is_one holds env (scope_at s.own.modules before) c) ∷ [])
      Spares before (instance p n other) taken = spared n.name
      Spares before _ taken = Unit {0}

      pub SparesAll : Before → Block → List Bool → Type 0
      SparesAll before done taken = Unit {0}
      SparesAll before ((then) y b) taken = Spares before y taken × SparesAll (behind before y) b taken

-- the same of a tree of designs, from the path of its instance on
abbrev pub chosen_of : Bool → Type 0 → Type 0 → Type 0
chosen_of true A B = A
chosen_of false A B = B

module _ (holds : TypesByPath) (env : ValuesByPath) (x : LeafPath) where
  abbrev mutual
    pub TreeSpares : LeafPath → SourceDesign → Type 0
    TreeSpares path (made_of s is) =
        SparesAll s (below path holds) (below path env) path x (InstanceSpares path is) (behind_all_ports s.own.inside) s.own.inside.body []

    pub InstanceSpares : LeafPath → Instances → List ℕ → Type 0
    InstanceSpares path no_instances name = Unit {0}
    InstanceSpares path (held y d rest) name =
        chosen_of (bytes_eq y name) (TreeSpares (path ++ named y ∷ []) d) (InstanceSpares path rest name)
