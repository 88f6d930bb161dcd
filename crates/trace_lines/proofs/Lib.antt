pub mod Growing
pub mod Kept
pub mod BadLines
pub mod Lining
