-- What no clause of `run` reads: which leaves share a reset, and what a map of Resets says of them.
pub mod ElementPaths
pub mod LeafClasses
pub mod DeclaredLeaves
pub mod Inferred
