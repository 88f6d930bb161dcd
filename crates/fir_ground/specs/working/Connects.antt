-- Connects and `is invalid`: what comes of their expressions, and what is driven.
use Rattle.std.specs.Prelude.{◌≡◌, ℕ, ◌+◌, ◌≤◌, List, ◌++◌, map, Bool, true, Result, OnOk}
use Rattle.fir_ast.specs.declared.place.Place.{Place}
use Rattle.fir_ast.specs.Types.{DataType}
use Rattle.fir_ast.specs.Expressions.{Expression}
use Rattle.fir_ast.specs.Statements.{SinkReference}
use Rattle.fir_meaning.specs.CostGroup.{cost_limit}
use Rattle.fir_meaning.specs.Costs.{size, size_of_sink}
use Rattle.fir_meaning.specs.Reaching.{Reached}
use Rattle.fir_meaning.specs.TypedScopes.{TypedScope}
use Rattle.fir_meaning.specs.TypeLeaves.{leaf_count}
use Rattle.fir_meaning.specs.working.WellTyped.{Reaches as ReachesThere}
use Rattle.fir_types.specs.working.ModuleNotes.{connect_notes}
use Rattle.fir_types.specs.working.Notes.{Note, reference_notes}
use Rattle.fir_types.specs.working.Seen.{found_type}
use Rattle.fir_leaf.specs.declared.node.Node.{Node}
use Rattle.fir_leaf.specs.declared.statement.LeafStmt.{LeafStmt}
use Rattle.fir_meaning.specs.working.LeafBlocks.{LeafBlock}
use Rattle.fir_meaning.specs.working.Leafed.{target_of, target_read, target_terms, terms}
use Rattle.fir_meaning.specs.working.LeafedBlocks.{Sides, connect_block, invalid_block, pairs_block}
use Rattle.fir_meaning.specs.working.LeafPairs.{LeafPair}
use Rattle.fir_leaf.specs.working.NodeBlocks.{Emitted}
use Rattle.fir_leaf.specs.working.Nodes.{Grows}
use Rattle.fir_meaning.specs.working.Targets as over
use Rattle.fir_ground.specs.declared.ground.Ground.{Ground}
use Rattle.fir_leaf_pairs.specs.declared.pairs.LeafPair.{LeafPair as PairOfCode}
use Rattle.fir_ground.specs.declared.sides.Sides.{Sides as SidesOfCode}
use Rattle.fir_leaf_pairs.specs.declared.target.Target.{Target}
use Rattle.fir_ground.specs.declared.walk.Walk.{Walk}
use Rattle.fir_leaf_pairs.specs.working.Drives.{HasSides, Stand, is_any_flipped, sinks_in}
use Rattle.fir_ground.specs.working.Expressions.{MayName}
use Rattle.fir_ground.specs.working.Grounds.{Comes, Enters, types_in}
use Rattle.fir_leaf_pairs.specs.working.TargetNames.{Names}
use Rattle.fir_leaf_pairs.specs.working.PairNumbers.{AreWithin}
use Rattle.fir_leaf_pairs.specs.working.Pairing.{pair_seen}
use Rattle.fir_leaf_pairs.specs.working.Reads.{IsWithinCost}

-- both sides of a connect have come, the right one of that type
pub record ShowsSides (ground : Ground) (typed : TypedScope) (rest : List Note) (old new : Walk) (sink : SinkReference) (e : Expression) (t : DataType)
    (s : SidesOfCode) : Type 0 where
  pub comes : Comes ground rest old new
  pub left : Names (types_in ground) new.nodes.items s.left (target_of typed sink)
  pub right : MayName (types_in ground) new.nodes.items s.source.target (target_read typed e)
  pub gives : Stand new.nodes.items s.source.ids.items (terms typed e)
  pub found : found_type (types_in ground) s.found ≡ t

-- a node for each leaf of what is driven, where a pair is flipped
pub record GivesBackWhere (ts : List DataType) (old new : List Node) (t : Target) (pairs : List PairOfCode) (ids : List ℕ) : Type 0 where
  pub grows : (r : over.Target) → Names ts old t r → IsWithinCost r → Grows old new
  pub gives : (r : over.Target) → Names ts old t r → IsWithinCost r → is_any_flipped (map pair_seen pairs) ≡ true → Stand new ids (target_terms r)

-- these pairs of them are driven, where a node may come for each leaf of the left side
pub record DrivesSides (old new : List Node) (before after : List LeafStmt) (b : LeafBlock) : Type 0 where
  pub grows : Grows old new
  pub emitted : Emitted new before after b

abbrev pub MayDriveSides : List DataType → List Node → List Node → List LeafStmt → List LeafStmt → Place → SidesOfCode → List PairOfCode → Type 0
MayDriveSides ts old new before after p s pairs =
    (m : ℕ) (meant : Sides) → HasSides ts old (leaf_count meant.left.data_type) m s.left s.source.target s.source.ids.items meant
    → meant.gives_back ≡ target_terms meant.left → AreWithin (leaf_count meant.left.data_type) m (map pair_seen pairs)
    → DrivesSides old new before after (pairs_block p meant (map pair_seen pairs))

-- what declares nothing is passed
pub record ComesStill (ground : Ground) (rest : List Note) (old new : Walk) (before after : List LeafStmt) (b : LeafBlock) : Type 0 where
  pub comes : Comes ground rest old new
  pub emitted : Emitted new.nodes.items before after b

abbrev pub Connects : {A E : Type 0} → (DataType → DataType → List LeafPair)
    → ((typed : TypedScope) → SinkReference → Expression → Type 0) → Ground → Place → SinkReference → Expression → Walk → Walk → List LeafStmt → List LeafStmt → Result A E
    → Type 0
Connects pairs_of IsLegal ground p sink e old new before after result =
    (typed : TypedScope) (rest : List Note) → Enters ground typed (connect_notes typed sink e ++ rest) old → IsLegal typed sink e
    → size_of_sink typed sink + size typed e ≤ cost_limit → OnOk result (ComesStill ground rest old new before after (connect_block pairs_of typed p sink e))

abbrev pub Invalidates : {A E : Type 0} → Ground → List Bool → Place → SinkReference → Walk → Walk → List LeafStmt → List LeafStmt → Result A E → Type 0
Invalidates ground sinks p sink old new before after result =
    (typed : TypedScope) (r : Reached) (rest : List Note) → Enters ground typed (reference_notes typed sink ++ rest) old → ReachesThere typed sink r
    → OnOk result (ComesStill ground rest old new before after (invalid_block (sinks_in sinks) p (target_of typed sink)))
