pub mod ShownWords
pub mod Rounds
pub mod Steps
pub mod working
