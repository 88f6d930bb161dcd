pub mod Reserved
pub mod Names
