pub mod Ports
pub mod working
