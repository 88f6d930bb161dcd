pub mod Commands
pub mod working
