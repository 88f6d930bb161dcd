pub mod Emitted
pub mod Program
