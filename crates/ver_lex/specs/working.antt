-- What no clause of `run` reads: laws, views of the code and its states.
pub mod Bytes
pub mod Fronts
pub mod View
pub mod Ways
pub mod Laws
pub mod Lexed
pub mod Lexemes
