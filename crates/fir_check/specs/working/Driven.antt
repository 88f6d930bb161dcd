-- Which driven leaf of a connect is the first that is a source.
use Rattle.std.specs.Prelude.{ℕ, List, [], ◌∷◌, ◌++◌, flat_map, Bool, true, false, ◌&&◌, if◌then◌else◌, Option, Some, None}
use Rattle.fir_ast.specs.declared.place.Place.{Place}
use Rattle.fir_ast.specs.Expressions.{Expression, reference}
use Rattle.fir_ast.specs.Statements.{SinkReference}
use Rattle.fir_ast.specs.Faults.{Fault}
use Rattle.fir_meaning.specs.LeafPaths.{LeafPath, step_text}
use Rattle.fir_meaning.specs.TypeLeaves.{TypeLeaf}
use Rattle.fir_meaning.specs.ConnectPairs.{Pair}
use Rattle.fir_meaning.specs.Flows.{flow_under, is_source}
use Rattle.fir_meaning.specs.KindFaults.{wrong_flow}
use Rattle.fir_check.specs.declared.drives.Sides.{Sides}
use Rattle.fir_check.specs.declared.drives.SourceLeaf.{SourceLeaf}
use Rattle.fir_types.specs.declared.reach.Reach.{Reach}
use Rattle.fir_types.specs.working.Seen.{flow_seen, sink_path}
use Rattle.fir_types.specs.working.Spots.{Spot, spot_of}

abbrev pub spot_of_pair : Pair → Spot
spot_of_pair p = spot_of p.left

-- the first on a side that is wanted
abbrev pub first_driven : Sides → List Spot → Option Spot
first_driven sides [] = None
first_driven sides (s ∷ ss) = if (if s.0 then sides.flipped else sides.straight) then Some s else first_driven sides ss

-- a leaf of what is reached, flipped or not, is a source, and a path leads there
abbrev pub is_source_at : Bool → Reach → Bool
is_source_at flip r = r.leads && is_source (flow_under flip (flow_seen r.flow))

-- a flipped one of the right side
abbrev pub is_source_on_right : Option Reach → Bool
is_source_on_right None = false
is_source_on_right (Some r) = is_source_at true r

-- as the code has it, and as a fault prints it
abbrev pub leaf_text : SourceLeaf → Bool × List ℕ
leaf_text l = (l.flip, l.steps.items)

abbrev pub spot_text : Spot → Bool × List ℕ
spot_text s = (s.0, flat_map step_text s.1)

-- E14 at a leaf of the right side, if that is a reference
abbrev pub on_right : Place → Expression → LeafPath → List Fault
on_right p (reference q n ps) steps = wrong_flow p (sink_path (record { place = q; name = n; parts = ps }) ++ steps) ∷ []
on_right p e steps = []

-- E14 at such a leaf of either side
abbrev pub flow_faults : Place → SinkReference → Expression → Option Spot → List Fault
flow_faults p sink e None = []
flow_faults p sink e (Some s) = if s.0 then on_right p e s.1 else wrong_flow p (sink_path sink ++ s.1) ∷ []
