pub mod Types
pub mod Expressions
pub mod Statements
pub mod Circuits
pub mod View
pub mod Texts
pub mod Faults
pub mod working
