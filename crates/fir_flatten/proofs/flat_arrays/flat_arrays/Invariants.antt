use Rattle.fir_net.specs.declared.array.Array.{Array}
use Rattle.fir_flatten.specs.declared.design_arrays.DesignArray.{DesignArray}
use Rattle.fir_flatten.specs.working.FlatArrays.{flat_array_of, nodes_of_array}
use Rattle.fir_flatten.proofs.AddedInTurn.{SoFar}
use Rattle.fir_flatten.proofs.flat_arrays.flat_arrays.Given as goal

abbrev pub invariant-loop-array : goal.invariant-loop-array
invariant-loop-array l = SoFar DesignArray Array flat_array_of nodes_of_array l.fn.nodes.items l.nodes.items l.yielded l.arrays.items
