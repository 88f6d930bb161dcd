-- What no clause of `run` reads: laws of loops and of asynchronous inits in whole designs.
pub mod SameLoops
pub mod SameInits
