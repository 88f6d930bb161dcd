pub mod Names
pub mod working
