pub mod SimulationEnded
pub mod SimulationComplete
pub mod LinedTicks
