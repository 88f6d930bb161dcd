-- What no clause of `run` reads: contracts between layers, laws, views of the code and its states.
pub mod IsLive
pub mod Marks
pub mod Needed
pub mod Numbers
pub mod Moved
pub mod Rewritten
