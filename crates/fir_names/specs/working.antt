-- What no clause of `run` reads: views of the code, its tables and its walks.
pub mod ModuleOrder
pub mod Numbered
pub mod Tabulated
pub mod Parts
pub mod Judged
pub mod Ordered
pub mod IsNamed
pub mod PortNames
