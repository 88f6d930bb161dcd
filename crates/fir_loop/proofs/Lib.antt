pub mod NetReads
pub mod Numbering
pub mod Reading
pub mod Circles
pub mod Loops
pub mod Heights
