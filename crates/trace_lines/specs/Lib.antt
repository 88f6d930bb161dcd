pub mod Saying
pub mod Runs
pub mod working
