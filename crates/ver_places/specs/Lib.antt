pub mod ItemPlaces
pub mod Places
pub mod working
