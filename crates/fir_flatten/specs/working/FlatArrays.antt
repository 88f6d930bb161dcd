-- The arrays of a flat net, as those of its design are put into it one by one, where so many nodes stand before theirs (FIRRTL spec, "Memories").
use Rattle.std.specs.Prelude.{ℕ, ◌+◌, List, [], ◌∷◌, ◌++◌, length}
use Rattle.fir_leaf_circuit.specs.declared.array.Writing.{Writing}
use Rattle.fir_net.specs.declared.array.Array.{Array}
use Rattle.fir_net.specs.declared.array.ArrayWrite.{ArrayWrite}
use Rattle.fir_net.specs.declared.node.Node.{Node}
use Rattle.fir_flatten.specs.declared.design_arrays.DesignArray.{DesignArray}
use Rattle.fir_flatten.specs.working.ArrayPorts.{array_write, writing_nodes}
use Rattle.fir_flatten.specs.working.FlatRoles.{width_of}

abbrev pub writes_of : List Writing → ℕ → List ArrayWrite
writes_of [] count = []
writes_of (w ∷ ws) count = array_write w count ∷ writes_of ws (count + length (writing_nodes w count))

abbrev pub nodes_of_writings : List Writing → ℕ → List Node
nodes_of_writings [] count = []
nodes_of_writings (w ∷ ws) count = writing_nodes w count ++ nodes_of_writings ws (count + length (writing_nodes w count))

abbrev pub nodes_of_array : DesignArray → ℕ → List Node
nodes_of_array a count = nodes_of_writings a.writings count

abbrev pub flat_array_of : DesignArray → ℕ → Array
flat_array_of a count = record {
  path = a.path;
  signed = (width_of a.holds).signed;
  width = (width_of a.holds).width;
  words = a.words;
  writes = writes_of a.writings count;
}

abbrev pub flat_arrays_of : List DesignArray → ℕ → List Array
flat_arrays_of [] count = []
flat_arrays_of (a ∷ rest) count = flat_array_of a count ∷ flat_arrays_of rest (count + length (nodes_of_array a count))

abbrev pub nodes_behind : List DesignArray → ℕ → List Node
nodes_behind [] count = []
nodes_behind (a ∷ rest) count = nodes_of_array a count ++ nodes_behind rest (count + length (nodes_of_array a count))
