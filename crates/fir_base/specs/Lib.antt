pub mod Bytes
pub mod Digits
pub mod Lists
pub mod Ticks
pub mod Words
pub mod working
