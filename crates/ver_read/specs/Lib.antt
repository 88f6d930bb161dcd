pub mod Reads
pub mod working
