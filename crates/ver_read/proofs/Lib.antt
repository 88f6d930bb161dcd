pub mod Braces
pub mod BracesOfItems
pub mod ShallowTexts
pub mod Refused
pub mod NeverBoth
pub mod ReadBack
