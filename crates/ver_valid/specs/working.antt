-- What no clause of `run` reads: what judging calls answer, and views of the code and its states.
pub mod Judgement
pub mod Declarations
pub mod Kinds
pub mod Scopes
pub mod Operands
pub mod Rules
pub mod Driven
pub mod Walks
-- The processes by their numbers.
pub mod Numbered
pub mod Drivers
pub mod Circles
