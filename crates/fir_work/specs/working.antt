-- What no clause of `run` reads: contracts between layers, laws, views of the code and its states.
pub mod NodeValues
pub mod Numbers
pub mod Held
pub mod Works
pub mod Forms
pub mod Tasks
