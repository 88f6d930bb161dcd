pub mod Powers
pub mod Masks
pub mod Below
pub mod Typing
pub mod Wider
pub mod Readings
pub mod LiteralWidths
