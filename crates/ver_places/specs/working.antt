-- What no clause of `run` reads: views of the code.
pub mod ItemPlaces
