-- What no clause of `run` reads: views of the code, its tables and its walks.
pub mod TextEndings
pub mod SimNets
pub mod Refusing
