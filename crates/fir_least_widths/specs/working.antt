-- What no clause of `run` reads: bounds and the least widths that meet them, and how far a search for these has come.
pub mod Bounds
pub mod Raises
pub mod Readers
pub mod Waiting
pub mod Solving
pub mod Rounds
