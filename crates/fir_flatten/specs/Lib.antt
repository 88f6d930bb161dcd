pub mod SourceRows
pub mod BlockWords
pub mod working
