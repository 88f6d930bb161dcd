-- What no clause of `run` reads yet: the leaves of modules as the code has them, and what their statements store.
pub mod Seen
pub mod Leafed
pub mod LeafStores
