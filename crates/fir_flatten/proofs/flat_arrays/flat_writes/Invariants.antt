use Rattle.std.proofs.Common.{take}
use Rattle.fir_leaf_circuit.specs.declared.array.Writing.{Writing}
use Rattle.fir_net.specs.declared.array.ArrayWrite.{ArrayWrite}
use Rattle.fir_flatten.specs.working.ArrayPorts.{array_write, writing_nodes}
use Rattle.fir_flatten.proofs.AddedInTurn.{SoFar}
use Rattle.fir_flatten.proofs.flat_arrays.flat_writes.Given as goal

abbrev pub invariant-loop-writing : goal.invariant-loop-writing
invariant-loop-writing l =
    SoFar Writing ArrayWrite array_write writing_nodes l.fn.nodes.items l.nodes.items (take l.writing-index l.writings) l.writes.items
