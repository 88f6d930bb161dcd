-- What no clause of `run` reads yet: the walk over expressions and statements, and what it makes of them.
pub mod Grounds
pub mod Absent
pub mod Expressions
pub mod Indices
pub mod Connects
pub mod ResetKinds
pub mod DeclarationDrivers
pub mod Statements
