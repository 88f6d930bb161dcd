-- What no clause of `run` reads: contracts between layers, laws, views of the code and its states.
pub mod Settling
pub mod Rooms
pub mod Running
pub mod Fronts
pub mod Laws
