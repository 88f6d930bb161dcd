-- E13 and E14 of a connect and a partial connect (FIRRTL spec, "Connects", "Partial Connects", "Flow").
-- Both sides have types. They have to fit, and then no driven leaf may be a source; the first that is, in the order of the pairs, is told.
use Rattle.std.specs.Prelude.{List, [], ◌∷◌, take, flat_map, if◌then◌else◌, Option, Some, None}
use Rattle.fir_ast.specs.declared.place.Place.{Place}
use Rattle.fir_ast.specs.Types.{DataType}
use Rattle.fir_ast.specs.Faults.{Fault}
use Rattle.fir_meaning.specs.LeafPaths.{LeafPath}
use Rattle.fir_meaning.specs.TypeLeaves.{TypeLeaf}
use Rattle.fir_meaning.specs.Equivalence.{is_connectable, is_partly_connectable}
use Rattle.fir_meaning.specs.ConnectPairs.{Pair, pairs, partial_pairs}
use Rattle.fir_meaning.specs.Flows.{flow_under, is_source}
use Rattle.fir_meaning.specs.KindFaults.{wrong_types, wrong_flow}
use Rattle.fir_meaning.specs.Reaching.{Reached, further}

-- at a leaf that a path leads to
abbrev pub flow_at : Place → Option LeafPath → List Fault
flow_at p None = []
flow_at p (Some path) = wrong_flow p path ∷ []

-- where the leaf of what is reached is a source
abbrev pub driven_leaf : Place → Option Reached → TypeLeaf → List Fault
driven_leaf p None l = []
driven_leaf p (Some r) l = if is_source (flow_under l.flip r.flow) then flow_at p (further r l.path) else []

-- the right leaf is driven where it is flipped
abbrev pub driven_of_pair : Place → Option Reached → Option Reached → Pair → List Fault
driven_of_pair p left right pair = if pair.left.flip then driven_leaf p right pair.right else driven_leaf p left pair.left

abbrev pub driven_faults : Place → Option Reached → Option Reached → List Pair → List Fault
driven_faults p left right ps = take 1 (flat_map (driven_of_pair p left right) ps)

-- of what is reached on the left, of what is reached on the right, if that is a reference, and of the type on the right
abbrev pub connect_faults : Place → Reached → Option Reached → DataType → List Fault
connect_faults p left right t =
    if is_connectable left.data_type t then driven_faults p (Some left) right (pairs left.data_type t) else wrong_types p left.data_type t ∷ []

abbrev pub partial_connect_faults : Place → Reached → Option Reached → DataType → List Fault
partial_connect_faults p left right t =
    if is_partly_connectable left.data_type t
    then driven_faults p (Some left) right (partial_pairs left.data_type t)
    else wrong_types p left.data_type t ∷ []
