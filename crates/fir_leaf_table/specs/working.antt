-- What no clause of `run` reads yet: the leaves of modules as the code has them, and what they stand for.
pub mod ModulePlaces
pub mod Frames
pub mod TypedLeaves
pub mod PushedTypeLeaves
pub mod DrivenLeaves
pub mod Memories
pub mod Givers
pub mod Walks
pub mod ModuleWalks
pub mod PushedLeaves
pub mod TakenDrivers
pub mod PortPlaces
