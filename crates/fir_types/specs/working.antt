-- What no clause of `run` reads: views of the code's types and scopes, and its walks.
pub mod Sorts
pub mod Seen
pub mod Judged
pub mod Notes
pub mod LeafNumbers
pub mod Known
pub mod Walked
pub mod Noted
pub mod ModuleNotes
pub mod MemoryFields
pub mod Statements
pub mod TypedModules
pub mod FirstLeaves
pub mod Spots
