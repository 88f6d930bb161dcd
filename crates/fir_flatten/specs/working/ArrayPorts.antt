-- What a memory's port reads of an array and writes there in the flat net, and the nodes of what enables it, where so many nodes stand before these (FIRRTL spec,
-- "Memories").
use Rattle.std.specs.Prelude.{ℕ, ◌+◌, List, [], ◌∷◌, false, Option, Some, None}
use Rattle.fir_bits.specs.declared.operators.PrimOp.{PrimOp}
use Rattle.fir_bits.specs.declared.operators.PrimOp.TheVariants.{And, Not}
use Rattle.fir_leaf_circuit.specs.declared.array.Writing.{Writing}
use Rattle.fir_leaf_circuit.specs.declared.leaf.ReadingRole.{ReadingRole}
use Rattle.fir_net.specs.declared.array.ArrayRead.{ArrayRead}
use Rattle.fir_net.specs.declared.array.ArrayWrite.{ArrayWrite}
use Rattle.fir_net.specs.declared.node.Node.{Node}
use Rattle.fir_net.specs.declared.node.Node.TheVariants as node
use Rattle.fir_net.specs.declared.reads.Read.{Read}
use Rattle.fir_net.specs.declared.reads.Read.TheVariants as read

-- an operation of one bit
abbrev pub bit_node : PrimOp → List Read → Node
bit_node op reads = node.Operation (record { op = op; reads = reads; integers = []; signed = false; width = 1 })

abbrev pub both_node : Read → Read → Node
both_node a b = bit_node And (a ∷ b ∷ [])

-- a port with a mode reads while its enable is 1 and its mode is 0
abbrev pub nodes_of_reading : ℕ → Option ℕ → ℕ → List Node
nodes_of_reading enable None count = []
nodes_of_reading enable (Some mode) count = bit_node Not (read.Leaf mode ∷ []) ∷ both_node (read.Leaf enable) (read.Node count) ∷ []

abbrev pub enable_of : ℕ → Option ℕ → ℕ → Read
enable_of enable None count = read.Leaf enable
enable_of enable (Some mode) count = read.Node (count + 1)

abbrev pub reading_nodes : ReadingRole → ℕ → List Node
reading_nodes r count = nodes_of_reading r.enable r.mode count

abbrev pub array_read : ReadingRole → ℕ → ArrayRead
array_read r count = record { array = r.array; address = read.Leaf r.address; enable = enable_of r.enable r.mode count }

-- a port writes where its enable, its mode, where there is one, and the mask are 1
abbrev pub nodes_of_writing : ℕ → Option ℕ → ℕ → ℕ → List Node
nodes_of_writing enable None mask count = both_node (read.Leaf enable) (read.Leaf mask) ∷ []
nodes_of_writing enable (Some mode) mask count =
    both_node (read.Leaf mode) (read.Leaf mask) ∷ both_node (read.Leaf enable) (read.Node count) ∷ []

abbrev pub condition_of : Option ℕ → ℕ → Read
condition_of None count = read.Node count
condition_of (Some mode) count = read.Node (count + 1)

abbrev pub writing_nodes : Writing → ℕ → List Node
writing_nodes w count = nodes_of_writing w.enable w.mode w.mask count

abbrev pub array_write : Writing → ℕ → ArrayWrite
array_write w count =
    record { clock = w.clock; condition = condition_of w.mode count; address = read.Leaf w.address; given = read.Leaf w.given }
