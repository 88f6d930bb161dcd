pub mod Simulates
pub mod SimulationAnswers
pub mod working
