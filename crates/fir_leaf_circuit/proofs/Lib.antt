pub mod ResetEnds
pub mod InferredResets
pub mod ResetPaths
pub mod ModuleScenes
pub mod CodeStores
