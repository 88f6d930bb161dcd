pub mod ClocksShown
pub mod Inputs
pub mod Lacking
pub mod Start
pub mod TraceShapes
pub mod working
