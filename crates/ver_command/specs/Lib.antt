pub mod Vsim
pub mod working
