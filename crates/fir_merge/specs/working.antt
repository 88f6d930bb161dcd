-- What no clause of `run` reads yet: what the nodes of a net stand for, and what the nodes of a module become.
pub mod NodeTerms
pub mod Bounds
pub mod Made
pub mod Conditions
pub mod NarrowTerms
pub mod Entries
pub mod Steps
pub mod Elements
pub mod Reads
