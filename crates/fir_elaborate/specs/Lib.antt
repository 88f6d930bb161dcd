pub mod working
