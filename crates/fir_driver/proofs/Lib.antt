pub mod EmittedPrinted
pub mod Answered
pub mod WordsEnded
