-- What no clause of `run` reads: how the lexer tells numbers from words.
pub mod Bytes
