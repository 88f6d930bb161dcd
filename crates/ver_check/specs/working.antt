-- What no clause of `run` reads: laws, contracts between layers, views of the code and its states.
pub mod Findings
pub mod Known
pub mod Judged
pub mod Sides
pub mod Blocks
pub mod Walks
pub mod Laws
