-- What no clause of `run` reads: how a text may go on, and what the parts of the parser read.
pub mod Symbols
pub mod Steps
pub mod Reading
pub mod Reads
pub mod Blocks
pub mod Whole
pub mod Fixed
pub mod Parsed
pub mod Laws
