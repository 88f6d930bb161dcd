-- What no clause of `run` reads: the types of memories over leaves.
pub mod TypedMemories
pub mod Laws
