-- What no clause of `run` reads: what a pass keeps, and the fault of one of two passes.
pub mod Groups
pub mod Law
pub mod Either
