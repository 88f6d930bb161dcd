pub mod RunLines
pub mod Stepped
pub mod Begun
pub mod TraceShapes
pub mod FirstLines
