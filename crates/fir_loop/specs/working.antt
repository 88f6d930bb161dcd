-- What no clause of `run` reads: contracts between layers, laws, views of the code and its states.
pub mod IsLoop
pub mod Orders
pub mod Laws
pub mod IsCircle
pub mod Numbered
