-- What no clause of `run` reads: the tree of the circuit.
pub mod GenTree
