-- What no clause of `run` reads yet: what drives each leaf of a module.
pub mod TargetLists
pub mod Slots
pub mod Walks
pub mod Drivers
