use Rattle.std.proofs.Common.{◌≡◌, ◌++◌, List, length, map}
use Rattle.fir_meaning.specs.TypeLeaves.{TypeLeaf}
use Rattle.fir_meaning.specs.working.LeafMemories.{LeafMemory, arrays_from}
use Rattle.fir_meaning.specs.LeafTypes.{LeafType}
use Rattle.fir_leaf_table.specs.working.Memories.{IsMemory}
use Rattle.fir_leaf_circuit.specs.working.Seen.{array_seen, unnamed_array}
use Rattle.fir_leaf_table.proofs.ArraysLeft.{arrays_left}
use Rattle.fir_leaf_table.proofs.memory_arrays.push_arrays.Given as goal

abbrev pub invariant-loop-leaf : goal.invariant-loop-leaf
invariant-loop-leaf l =
    (meant : LeafMemory) (leaves : List TypeLeaf) (holds : List LeafType) → IsMemory l.memory meant holds → length leaves ≡ length holds
    → map array_seen l.arrays.items ++ arrays_left meant leaves holds l.leaf
    ≡ map array_seen l.initial.arrays.items ++ map unnamed_array (arrays_from meant 0 leaves holds)
