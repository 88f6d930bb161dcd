-- What no clause of `run` reads: the code's commands, as the definitions see them, and laws.
pub mod Commanded
pub mod Laws
