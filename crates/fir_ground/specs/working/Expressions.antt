-- What the walk makes of an expression, besides a node for each of its leaves.
use Rattle.std.specs.Prelude.{ℕ, List, Option, Some, None}
use Rattle.fir_ast.specs.Types.{DataType}
use Rattle.fir_types.specs.working.Notes.{Note}
use Rattle.fir_leaf.specs.declared.node.Node.{Node}
use Rattle.fir_leaf.specs.working.Nodes.{Shows}
use Rattle.fir_meaning.specs.working.Targets as over
use Rattle.fir_meaning.specs.working.Terms.{Term}
use Rattle.fir_ground.specs.declared.ground.Ground.{Ground}
use Rattle.fir_ground.specs.declared.source.Source.{Source}
use Rattle.fir_leaf_pairs.specs.declared.target.Target.{Target}
use Rattle.fir_ground.specs.declared.walk.Walk.{Walk}
use Rattle.fir_ground.specs.working.Grounds.{Comes, Expands, types_in}
use Rattle.fir_leaf_pairs.specs.working.TargetNames.{Names}

-- behind a form, and this node stands for the term of its first leaf
pub record ExpandsFirst (ground : Ground) (rest : List Note) (old new : Walk) (id : ℕ) (t : Term) : Type 0 where
  pub comes : Comes ground rest old new
  pub shows : Shows old.nodes.items new.nodes.items id t

-- the code has a target where the definitions have one, and it is that one
abbrev pub MayName : List DataType → List Node → Option Target → Option over.Target → Type 0
MayName ts nodes None None = Unit {0}
MayName ts nodes (Some t) (Some r) = Names ts nodes t r
MayName ts nodes _ _ = ⊥

-- behind the source of a connect
pub record ExpandsSource (ground : Ground) (rest : List Note) (old new : Walk) (source : Source) (r : Option over.Target) (ts : List Term) : Type 0 where
  pub expands : Expands ground rest old new source.ids.items ts
  pub target : MayName (types_in ground) new.nodes.items source.target r
