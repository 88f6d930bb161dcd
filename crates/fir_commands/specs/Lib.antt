pub mod TextCommands
pub mod TextAnswers
pub mod Emit
pub mod Check
pub mod Sim
pub mod working
