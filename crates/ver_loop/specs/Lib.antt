pub mod Loops
pub mod working
