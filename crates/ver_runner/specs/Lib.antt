pub mod Orders
pub mod Counting
pub mod VerilogLines
pub mod working
