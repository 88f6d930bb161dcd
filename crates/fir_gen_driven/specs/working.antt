-- What no clause of `run` reads: laws about the circuit.
pub mod Laws
