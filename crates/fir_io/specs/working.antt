-- What no clause of `run` reads: contracts between layers, laws, views of the code and its states.
pub mod Memory
pub mod Os
pub mod Planned
pub mod Sure
pub mod Ports
