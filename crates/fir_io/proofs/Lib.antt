pub mod Prefixes
pub mod Remaining
