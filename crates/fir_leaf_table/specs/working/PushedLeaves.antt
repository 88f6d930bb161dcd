-- The walk passes one declaration: its leaves come, and nothing else.
use Rattle.std.specs.Prelude.{◌≡◌, ℕ, ◌+◌, List, ◌++◌, length}
use Rattle.fir_ast.specs.Circuits.{CircuitTree}
use Rattle.fir_ast.specs.Statements.{PlacedName}
use Rattle.fir_meaning.specs.Components.{Component}
use Rattle.fir_meaning.specs.Visibility.{Before}
use Rattle.fir_leaf.specs.declared.node.Node.{Node}
use Rattle.fir_meaning.specs.ModuleScenes.{Scene, held_by_declared, type_of_declared}
use Rattle.fir_leaf_table.specs.declared.frame.Frame.{Frame}
use Rattle.fir_leaf_table.specs.declared.giver.Giver.{Giver}
use Rattle.fir_leaf_table.specs.declared.places.Places.{Places}
use Rattle.fir_leaf_table.specs.declared.type_leaves.TypeLeaf.{TypeLeaf}
use Rattle.fir_leaf_table.specs.declared.walk.Walk.{Walk}
use Rattle.fir_leaf_table.specs.working.Frames.{Frames, IsDeclaredAt}
use Rattle.fir_leaf_table.specs.working.Givers.{given_from}
use Rattle.fir_leaf_circuit.specs.working.Seen.{leaves_seen}
use Rattle.fir_leaf_table.specs.working.TypedLeaves.{AreLeavesOf}

-- the leaves are those of the declaration behind so many
abbrev pub AreDeclared : Frame → ℕ → List TypeLeaf → Type 0
AreDeclared frame position leaves =
    (c : CircuitTree) (s : Scene) (before : Before) (n : PlacedName) (component : Component)
    → Frames frame c s → IsDeclaredAt s before n component position
    → AreLeavesOf leaves (type_of_declared s (record { named = n; component = component; before = before }))
    (held_by_declared s (record { named = n; component = component; before = before }))

pub record PushesLeaves (frame : Frame) (depth : ℕ) (places : Places) (gives : Giver) (old new : Walk) : Type 0 where
  pub leaves : List TypeLeaf
  pub are : AreDeclared frame old.declared leaves
  pub pushed : (nodes : List Node) → old.no_node ≡ length nodes
      → leaves_seen nodes new.leaves.items ≡ leaves_seen nodes old.leaves.items ++ given_from nodes old.declared depth places gives 0 leaves
  pub counted : new.declared ≡ old.declared + 1
  pub drivers : new.drivers ≡ old.drivers
  pub no_node : new.no_node ≡ old.no_node
  pub arrays : new.arrays ≡ old.arrays
  pub memories : new.memories ≡ old.memories
