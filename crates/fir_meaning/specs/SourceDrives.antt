-- What the statements of a module drive, leaf by leaf, by paths (FIRRTL spec, "Connects", "Partial Connects", "Invalidates").
-- Of each pair of leaves that a connect has, a flipped one is driven on the right side. Where dynamic indices stand on the driven side, the statement may drive
-- each leaf that they may pick. An invalid drives the leaves that may be driven, and reads nothing.
use Rattle.std.specs.Prelude.{List, [], ◌∷◌, ◌++◌, Bool, true, false, if◌then◌else◌, flat_map}
use Rattle.fir_ast.specs.declared.place.Place.{Place}
use Rattle.fir_ast.specs.Types.{DataType}
use Rattle.fir_ast.specs.Expressions.{Expression, Parts, reference}
use Rattle.fir_ast.specs.Statements.{Statement, connect, invalid, partial_connect}
use Rattle.fir_meaning.specs.ConnectPairs.{Pair, pairs, partial_pairs}
use Rattle.fir_meaning.specs.ExpressionTypes.{expression_type}
use Rattle.fir_meaning.specs.LeafPaths.{LeafPath}
use Rattle.fir_meaning.specs.FoundTypes.{type_where}
use Rattle.fir_meaning.specs.ModuleScenes.{Scene, scope_before}
use Rattle.fir_meaning.specs.MemoryTypes.{first_one}
use Rattle.fir_meaning.specs.ResetItems.{has_access}
use Rattle.fir_meaning.specs.SizedScopes.{sink_expression}
use Rattle.fir_meaning.specs.SourceFacts.{source_may_drive}
use Rattle.fir_meaning.specs.SourceReads.{index_places, index_reads, leaves_named, reads}
use Rattle.fir_meaning.specs.SamePaths.{may_be_driven}
use Rattle.fir_meaning.specs.TypeLeaves.{TypeLeaf, type_leaves}
use Rattle.fir_meaning.specs.TypedScopes.{TypedScope}
use Rattle.fir_meaning.specs.Visits.{Branch, Visit, module_visits}

-- a side of a connect at one leaf of its type: the leaves that it may name, where it is a reference; whether dynamic indices pick one of them, what these read
-- and where they stand; and all that is read where the side is what is given
pub record Side : Type 0 where
  pub leaves : List LeafPath
  pub is_picked : Bool
  pub index_reads : List LeafPath
  pub index_places : List Place
  pub reads : List LeafPath

-- one leaf, or the one that dynamic indices pick, takes what is given
pub record Drive : Type 0 where
  -- a choice tells by it whether the indices pick the leaf
  pub way : List Bool
  pub place : Place
  pub under : List Branch
  pub driven : Side
  pub given : Side

abbrev pub nothing_given : Side
nothing_given = record { leaves = []; is_picked = false; index_reads = []; index_places = []; reads = [] }

module _ (scope : TypedScope) where
  abbrev pub reference_side : Expression → Parts → List LeafPath → LeafPath → Side
  reference_side e ps leaves q = record {
    leaves = leaves;
    is_picked = has_access ps;
    index_reads = index_reads scope ps;
    index_places = index_places ps;
    reads = reads scope e q;
  }

  abbrev pub side : Expression → LeafPath → Side
  side (reference p n ps) q = reference_side (reference p n ps) ps (leaves_named scope n ps q) q
  side e q = record { leaves = []; is_picked = false; index_reads = []; index_places = []; reads = reads scope e q }

  abbrev pub type_here : Expression → DataType
  type_here e = type_where (expression_type scope e).has

module _ (s : Scene) (v : Visit) where
  abbrev pub drive : List Bool → Place → Side → Side → Drive
  drive way place driven given = record { way = way; place = place; under = v.under; driven = driven; given = given }

  abbrev pub pair_drive : List Bool → Place → Expression → Expression → Pair → Drive
  pair_drive way place sink e pair =
      if pair.left.flip
      then drive way place (side (scope_before s v.before) e pair.right.path) (side (scope_before s v.before) sink pair.left.path)
      else drive way place (side (scope_before s v.before) sink pair.left.path) (side (scope_before s v.before) e pair.right.path)

  abbrev pub pair_drives : List Bool → Place → Expression → Expression → List Pair → List Drive
  pair_drives way place sink e [] = []
  pair_drives way place sink e (pair ∷ rest) = pair_drive (way ++ false ∷ []) place sink e pair ∷ pair_drives (way ++ true ∷ []) place sink e rest

  abbrev pub connect_drives : (DataType → DataType → List Pair) → Place → Expression → Expression → List Drive
  connect_drives pairs_of place sink e =
      pair_drives v.way place sink e (pairs_of (type_here (scope_before s v.before) sink) (type_here (scope_before s v.before) e))

  -- all elements of a vector are of one kind, so the first tells whether they may be driven
  abbrev pub invalid_drive : List Bool → Place → Side → List Drive
  invalid_drive way place driven =
      if may_be_driven (source_may_drive s) (first_one driven.leaves) then drive way place driven nothing_given ∷ [] else []

  abbrev pub invalid_drives : List Bool → Place → Expression → List TypeLeaf → List Drive
  invalid_drives way place sink [] = []
  invalid_drives way place sink (l ∷ ls) =
      invalid_drive (way ++ false ∷ []) place (side (scope_before s v.before) sink l.path) ++ invalid_drives (way ++ true ∷ []) place sink ls

  abbrev pub drives_by : Statement → List Drive
  drives_by (connect p sink e) = connect_drives pairs p (sink_expression sink) e
  drives_by (partial_connect p sink e) = connect_drives partial_pairs p (sink_expression sink) e
  drives_by (invalid p sink) =
      invalid_drives v.way p (sink_expression sink) (type_leaves (type_here (scope_before s v.before) (sink_expression sink)))
  drives_by _ = []

  -- of the statement itself
  abbrev pub drives : List Drive
  drives = drives_by v.statement

-- of all statements of the module, in their order
abbrev pub module_drives : Scene → List Drive
module_drives s = flat_map (drives s) (module_visits s.own.inside)
