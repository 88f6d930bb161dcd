-- What no clause of `run` reads: views of the code, its tables and its walks.
pub mod ArrayReads
pub mod ArraySpans
pub mod ArrayWrites
pub mod Passes
pub mod PipePlans
pub mod PipeReads
pub mod Plans
pub mod Roots
pub mod Settling
pub mod Shapes
pub mod StateWords
pub mod Steps
pub mod Views
pub mod WritePlans
