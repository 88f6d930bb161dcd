pub mod Groups
pub mod Meaning
pub mod Law
pub mod working
