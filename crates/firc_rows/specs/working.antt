-- What no clause of `run` reads: what is said of the program where nothing fails.
pub mod Left
