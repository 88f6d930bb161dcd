pub mod RootWalks
pub mod InputNumbers
