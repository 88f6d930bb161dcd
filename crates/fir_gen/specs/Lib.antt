pub mod GenText
pub mod working
