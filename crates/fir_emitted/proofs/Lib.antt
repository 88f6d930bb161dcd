pub mod TraceWords
pub mod OutputWidths
pub mod Printing
