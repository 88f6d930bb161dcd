-- What no clause of `run` reads: contracts between layers, laws, views of the code and its states.
pub mod Bytes
pub mod Front
pub mod Levels
pub mod Lexed
pub mod TokenText
pub mod Numbers
pub mod View
pub mod Blocks
pub mod Steps
pub mod Ways
pub mod Laws
