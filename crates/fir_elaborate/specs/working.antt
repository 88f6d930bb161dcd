-- What no clause of `run` reads: the walk through the instances of a design, and what it rests on.
pub mod OrderedModules
pub mod CopyPaths
pub mod Elaborations
pub mod CopyArrays
pub mod Walks
pub mod Laws
