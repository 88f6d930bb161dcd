-- The walk over the declarations of a module: what it enters with, and what it comes to.
use Rattle.std.specs.Prelude.{◌≡◌, ℕ, List, [], ◌++◌, map, length, Result, OnOk}
use Rattle.fir_ast.specs.Circuits.{CircuitTree, PortTree}
use Rattle.fir_ast.specs.Statements.{Block, Statement}
use Rattle.fir_meaning.specs.Components.{Declaration}
use Rattle.fir_meaning.specs.Costs.{sum_of}
use Rattle.fir_meaning.specs.Visibility.{Before, behind, behind_block, behind_ports, declarations}
use Rattle.fir_types.specs.working.Walked.{Begins}
use Rattle.fir_ground.specs.working.DeclarationDrivers.{DriverMeant, drivers_in, drivers_in_block, drivers_seen}
use Rattle.fir_leaf.specs.declared.node.Node.{Node}
use Rattle.fir_meaning.specs.ModuleScenes.{Scene, scope_before}
use Rattle.fir_meaning.specs.working.LeafedModules.{arrays_in, arrays_in_block, leaves_in, leaves_in_block, leaves_of_ports, memories_in, memories_in_block}
use Rattle.fir_meaning.specs.working.LeafMemories.{arrays_of}
use Rattle.fir_meaning.specs.working.LeafModules.{LeafArray, LeafDeclared, MemoryDeclared}
use Rattle.fir_meaning.specs.working.Targets.{leaves_so_far}
use Rattle.fir_leaf_table.specs.declared.frame.Frame.{Frame}
use Rattle.fir_leaf_table.specs.declared.walk.Walk.{Walk}
use Rattle.fir_leaf_table.specs.working.Frames.{Frames}
use Rattle.fir_leaf_circuit.specs.working.Seen.{array_seen, leaves_seen, memory_seen, unnamed, unnamed_array}

-- as many declarations, leaves and arrays are passed as stand before the place
pub record Counts (s : Scene) (before : Before) (walk : Walk) : Type 0 where
  pub declared : walk.declared ≡ length before.declared
  pub leaves : length walk.leaves.items ≡ leaves_so_far (scope_before s before)
  pub arrays : length walk.arrays.items ≡ sum_of (map (λ (d : Declaration). arrays_of d.component) before.declared)

-- in front of a place of the module, where these drivers come
pub record EntersAt (frame : Frame) (c : CircuitTree) (s : Scene) (before : Before) (nodes : List Node) (coming : List DriverMeant) (depth : ℕ) (walk : Walk) :
    Type 0 where
  pub frames : Frames frame c s
  pub counts : Counts s before walk
  pub deep : depth ≡ before.depth
  pub no_node : walk.no_node ≡ length nodes
  pub drivers : drivers_seen nodes walk.drivers.now ≡ coming

-- and behind it: these leaves, arrays and memories have come
pub record ComesBehind (s : Scene) (after : Before) (nodes : List Node) (rest : List DriverMeant) (own_leaves : List LeafDeclared)
    (own_arrays : List LeafArray) (own_memories : List MemoryDeclared) (old new : Walk) : Type 0 where
  pub counts : Counts s after new
  pub no_node : new.no_node ≡ old.no_node
  pub drivers : drivers_seen nodes new.drivers.now ≡ rest
  pub leaves : leaves_seen nodes new.leaves.items ≡ leaves_seen nodes old.leaves.items ++ map unnamed own_leaves
  pub arrays : map array_seen new.arrays.items ≡ map array_seen old.arrays.items ++ map unnamed_array own_arrays
  pub memories : map memory_seen new.memories.items ≡ map memory_seen old.memories.items ++ own_memories

-- a statement is passed
abbrev pub PassesStatement : {A E : Type 0} → Frame → Statement → ℕ → Walk → Walk → Result A E → Type 0
PassesStatement frame x depth old new result =
    (c : CircuitTree) (s : Scene) (before : Before) (nodes : List Node) (rest : List DriverMeant)
    → EntersAt frame c s before nodes (drivers_in c.modules before x ++ rest) depth old
    → Begins (behind before x).declared (declarations s.own.inside)
    → OnOk result (ComesBehind s (behind before x) nodes rest (leaves_in s before x) (arrays_in s before x) (memories_in s before x) old new)

abbrev pub PassesBlock : {A E : Type 0} → Frame → Block → ℕ → Walk → Walk → Result A E → Type 0
PassesBlock frame b depth old new result =
    (c : CircuitTree) (s : Scene) (before : Before) (nodes : List Node) (rest : List DriverMeant)
    → EntersAt frame c s before nodes (drivers_in_block c.modules before b ++ rest) depth old
    → Begins (behind_block before b).declared (declarations s.own.inside)
    → OnOk result
    (ComesBehind s (behind_block before b) nodes rest (leaves_in_block s before b) (arrays_in_block s before b) (memories_in_block s before b) old new)

-- ports are passed, which have no drivers and no arrays
abbrev pub PassesPorts : {A E : Type 0} → Frame → List PortTree → Walk → Walk → Result A E → Type 0
PassesPorts frame ports old new result =
    (c : CircuitTree) (s : Scene) (before : Before) (nodes : List Node) (rest : List DriverMeant)
    → EntersAt frame c s before nodes rest 0 old → Begins (behind_ports before ports).declared (declarations s.own.inside)
    → OnOk result (ComesBehind s (behind_ports before ports) nodes rest (leaves_of_ports s before ports) [] [] old new)
