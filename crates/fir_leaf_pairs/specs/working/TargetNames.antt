-- The leaves that the code has of a reference, and those that the definitions say.
use Rattle.std.specs.Prelude.{◌≡◌, ℕ, ◌<◌, List, Option, Some, None, length}
use Rattle.fir_ast.specs.Types.{DataType}
use Rattle.fir_types.specs.working.Seen.{found_type}
use Rattle.fir_leaf.specs.declared.node.Node.{Node}
use Rattle.fir_meaning.specs.working.Targets as over
use Rattle.fir_leaf.specs.working.Nodes.{entries, picks_at}
use Rattle.fir_leaf_pairs.specs.declared.target.Target.{Target}

abbrev pub PicksWithin : ℕ → Option ℕ → Type 0
PicksWithin n None = Unit {0}
PicksWithin n (Some i) = i < n

-- the code's target is this one of the definitions
pub record Names (ts : List DataType) (nodes : List Node) (t : Target) (r : over.Target) : Type 0 where
  pub base : t.base ≡ r.base
  pub within : PicksWithin (length nodes) t.picks
  pub picks : picks_at (entries nodes) t.picks ≡ r.picks
  pub data_type : found_type ts t.found ≡ r.data_type
