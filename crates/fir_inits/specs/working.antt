-- What no clause of `run` reads: contracts between layers, and the states of a search.
pub mod AsyncInits
pub mod ShowsInit
pub mod InitValues
pub mod Constants
pub mod Searched
pub mod Steps
pub mod Walks
