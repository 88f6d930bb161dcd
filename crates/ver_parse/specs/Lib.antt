pub mod Fronts
pub mod Depths
pub mod TextFaults
pub mod working
