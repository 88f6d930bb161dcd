pub mod TestArrays
pub mod TestLeaves
pub mod TestStates
