-- What no clause of `run` reads: laws.
pub mod Checked
pub mod Laws
