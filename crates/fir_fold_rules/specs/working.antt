-- What no clause of `run` reads: contracts between layers, laws, views of the code and its states.
pub mod Replaces
pub mod Simplifies
pub mod Folded
pub mod Rules
pub mod Terms
