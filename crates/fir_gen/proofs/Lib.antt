mod Joined
pub mod RegisterNames
mod Steps
mod Lengths
