pub mod Ports
pub mod NamedFor
pub mod Arranged
pub mod working
