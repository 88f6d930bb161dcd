-- The walk over the statements of a module: what it enters with, and what it comes to.
use Rattle.std.specs.Prelude.{◌≡◌, ℕ, ◌+◌, ◌≤◌, List, [], ◌∷◌, ◌++◌, length, Option, Some, None, Result, OnOk}
use Rattle.fir_ast.specs.Statements.{PlacedName, Statement, Block}
use Rattle.fir_ast.specs.Circuits.{ModuleTree}
use Rattle.fir_meaning.specs.Components.{Declarations, instance}
use Rattle.fir_meaning.specs.ComponentTypes.{typed_scope}
use Rattle.fir_meaning.specs.CostGroup.{cost_limit}
use Rattle.fir_meaning.specs.Costs.{ModuleCosts, cost_of, cost_of_block, leaves_where}
use Rattle.fir_meaning.specs.TypedScopes.{TypedScope}
use Rattle.fir_meaning.specs.Visibility.{Before, behind, behind_block, with_declaration}
use Rattle.fir_meaning.specs.working.WellTyped.{AreLegal, IsLegal}
use Rattle.fir_types.specs.working.ModuleNotes.{block_notes, statement_notes}
use Rattle.fir_types.specs.working.Notes.{Note}
use Rattle.fir_types.specs.working.Walked.{Begins, IsOfModule}
use Rattle.fir_leaf.specs.declared.statement.LeafInstance.{LeafInstance}
use Rattle.fir_leaf.specs.declared.statement.LeafStmt.{LeafStmt}
use Rattle.fir_meaning.specs.working.LeafBlocks.{LeafBlock}
use Rattle.fir_meaning.specs.working.LeafedBlocks.{leafed, leafed_all}
use Rattle.fir_leaf.specs.working.NodeBlocks.{Emitted}
use Rattle.fir_leaf.specs.working.Nodes.{Grows}
use Rattle.fir_meaning.specs.working.Targets.{leaves_so_far}
use Rattle.fir_ground.specs.declared.frame.Frame.{Frame}
use Rattle.fir_ground.specs.declared.walk.Walk.{Walk}
use Rattle.fir_ground.specs.working.DeclarationDrivers.{DriverMeant, Driven, drivers_in, drivers_in_block}
use Rattle.fir_leaf_pairs.specs.working.Drives.{sinks_in}
use Rattle.fir_ground.specs.working.Grounds.{Ahead, types_in}

-- the number of the first leaf of each that is declared, behind so many leaves
abbrev pub firsts_from : ℕ → TypedScope → List ℕ
firsts_from n [] = []
firsts_from n (k ∷ ks) = n ∷ firsts_from (n + leaves_where k.data_type) ks

-- the frame is that of a module that declares all this
pub record Frames (frame : Frame) (modules : List ModuleTree) (whole : Declarations) : Type 0 where
  pub firsts : frame.ground.firsts.now ≡ firsts_from 0 (typed_scope modules whole)
  pub small : leaves_so_far (typed_scope modules whole) ≤ cost_limit
  pub names : IsOfModule modules frame.names.now whole

-- in front of a statement, at a place
pub record EntersAt (frame : Frame) (modules : List ModuleTree) (whole : Declarations) (before : Before) (notes : List Note) (declared : ℕ) (walk : Walk) :
    Type 0 where
  pub frames : Frames frame modules whole
  pub ahead : Ahead (types_in frame.ground) walk.notes.now notes
  pub counted : declared ≡ length before.declared

-- its notes are read, and nodes have come
pub record Walks (frame : Frame) (rest : List Note) (old new : Walk) : Type 0 where
  pub grows : Grows old.nodes.items new.nodes.items
  pub ahead : Ahead (types_in frame.ground) new.notes.now rest

-- and behind it: its statements over leaves have come too, and the drivers of what it declares
pub record ComesBehind (frame : Frame) (after : Before) (rest : List Note) (b : LeafBlock) (ds : List DriverMeant) (old new : Walk) (declared : ℕ)
    (front out : List LeafStmt) : Type 0 where
  pub comes : Walks frame rest old new
  pub counted : declared ≡ length after.declared
  pub emitted : Emitted new.nodes.items front out b
  pub driven : Driven new.nodes.items old.drivers.items new.drivers.items ds

-- a statement is passed, whatever the modules cost
abbrev pub PassesStatement : {A E : Type 0} → Frame → Statement → Walk → Walk → ℕ → ℕ → List LeafStmt → List LeafStmt → Result A E → Type 0
PassesStatement frame s old new was is front out result =
    (modules : List ModuleTree) (costs : ModuleCosts) (whole : Declarations) (before : Before) (rest : List Note)
    → EntersAt frame modules whole before (statement_notes modules before s ++ rest) was old → Begins (behind before s).declared whole
    → IsLegal modules before s → cost_of modules costs before s ≤ cost_limit
    → OnOk result (ComesBehind frame (behind before s) rest (leafed modules (sinks_in frame.sinks.now) before s)
    (drivers_in modules before s) old new is front out)

abbrev pub PassesBlock : {A E : Type 0} → Frame → Block → Walk → Walk → ℕ → ℕ → List LeafStmt → List LeafStmt → Result A E → Type 0
PassesBlock frame b old new was is front out result =
    (modules : List ModuleTree) (costs : ModuleCosts) (whole : Declarations) (before : Before) (rest : List Note)
    → EntersAt frame modules whole before (block_notes modules before b ++ rest) was old → Begins (behind_block before b).declared whole
    → AreLegal modules before b → cost_of_block modules costs before b ≤ cost_limit
    → OnOk result (ComesBehind frame (behind_block before b) rest (leafed_all modules (sinks_in frame.sinks.now) before b)
    (drivers_in_block modules before b) old new is front out)

-- an instance is declared at the place, behind so many declarations of the module
pub record IsInstanceAt (frame : Frame) (modules : List ModuleTree) (whole : Declarations) (before : Before) (n : PlacedName) (name : List ℕ) (position : ℕ) :
    Type 0 where
  pub frames : Frames frame modules whole
  pub begins : Begins (with_declaration before n (instance name)).declared whole
  pub counted : position ≡ length before.declared

-- the code's instance is that of this module, behind what is declared
abbrev pub IsInstance : TypedScope → Option (ℕ × ModuleTree) → Option LeafInstance → Type 0
IsInstance scope None found = ⊥
IsInstance scope (Some child) None = ⊥
IsInstance scope (Some child) (Some i) = (i.declaration ≡ length scope) × (i.module_number ≡ child.0) × (i.first ≡ leaves_so_far scope)
