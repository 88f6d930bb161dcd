pub mod Messages
pub mod Outside
pub mod working
