-- What no clause of `run` reads: views of the code, its tables and its walks.
pub mod Driven
pub mod Connected
pub mod Registers
pub mod MemoryParts
pub mod FaultsOfWords
