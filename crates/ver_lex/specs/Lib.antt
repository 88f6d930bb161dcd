pub mod Lexed
pub mod working
