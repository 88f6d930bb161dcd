-- What no clause of `run` reads: a law about the text of a circuit of any size.
pub mod Laws
