-- The walk over the expressions of a module: what it enters with, and what it comes to.
use Rattle.std.specs.Prelude.{◌≡◌, ℕ, ◌≤◌, List, map, Some, slice_get}
use Rattle.fir_ast.specs.Types.{DataType}
use Rattle.fir_meaning.specs.TypedScopes.{Known, TypedScope, known}
use Rattle.fir_meaning.specs.CostGroup.{cost_limit}
use Rattle.fir_type_table.specs.working.Tables.{types_of}
use Rattle.fir_types.specs.declared.note.Note.{Note as NoteOfCode}
use Rattle.fir_types.specs.working.Notes.{Note, position_of}
use Rattle.fir_types.specs.working.Noted.{note_seen, saturated_note}
use Rattle.fir_meaning.specs.working.Terms.{Term}
use Rattle.fir_meaning.specs.working.Targets as over
use Rattle.fir_meaning.specs.working.Targets.{leaves_ahead, leaves_so_far}
use Rattle.fir_leaf.specs.working.Nodes.{Gives, Grows}
use Rattle.fir_ground.specs.declared.ground.Ground.{Ground}
use Rattle.fir_leaf_pairs.specs.declared.target.Target.{Target}
use Rattle.fir_ground.specs.declared.walk.Walk.{Walk}
use Rattle.fir_leaf_pairs.specs.working.TargetNames.{Names}

abbrev pub types_in : Ground → List DataType
types_in ground = types_of ground.table.now

-- the notes that are not read yet
abbrev pub Ahead : List DataType → List NoteOfCode → List Note → Type 0
Ahead ts notes meant = map (note_seen ts) notes ≡ map saturated_note meant

-- the code knows where the leaves of each name begin, and there are no more of them than a circuit may cost
pub record Stands (ground : Ground) (typed : TypedScope) : Type 0 where
  pub firsts : (name : List ℕ) (k : Known) → known typed name ≡ Some k → slice_get ground.firsts.now (position_of typed name) ≡ Some (leaves_ahead typed name)
  pub small : leaves_so_far typed ≤ cost_limit

-- in front of a form, whose notes come first
pub record Enters (ground : Ground) (typed : TypedScope) (notes : List Note) (walk : Walk) : Type 0 where
  pub stands : Stands ground typed
  pub ahead : Ahead (types_in ground) walk.notes.now notes

-- behind a form: its notes are read, and nodes have come; it declares nothing
pub record Comes (ground : Ground) (rest : List Note) (old new : Walk) : Type 0 where
  pub grows : Grows old.nodes.items new.nodes.items
  pub ahead : Ahead (types_in ground) new.notes.now rest
  pub drivers : new.drivers ≡ old.drivers

-- and these nodes stand for the terms of its leaves
pub record Expands (ground : Ground) (rest : List Note) (old new : Walk) (ids : List ℕ) (ts : List Term) : Type 0 where
  pub comes : Comes ground rest old new
  pub gives : Gives old.nodes.items new.nodes.items ids ts

-- behind a reference
pub record Reaches (ground : Ground) (rest : List Note) (old new : Walk) (t : Target) (r : over.Target) : Type 0 where
  pub comes : Comes ground rest old new
  pub names : Names (types_in ground) new.nodes.items t r
