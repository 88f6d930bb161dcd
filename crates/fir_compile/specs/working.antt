-- What no clause of `run` reads: contracts between layers, laws, views of the code and its states.
pub mod Told
pub mod Readings
pub mod Counted
pub mod Made
