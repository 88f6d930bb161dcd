pub mod ClosedWalks
pub mod Givers
pub mod NoOrder
