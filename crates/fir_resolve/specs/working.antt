-- What no clause of `run` reads: views of the code, its tables and its walks.
pub mod Namespaces
pub mod Opened
pub mod Scoped
pub mod Entered
