-- What no clause of `run` reads: the types of terms, statements and modules over leaves.
pub mod TypedTerms
pub mod TypedBlocks
pub mod TypedModules
