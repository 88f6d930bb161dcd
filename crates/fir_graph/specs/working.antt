-- What no clause of `run` reads: graphs, their orders and circles, and the states of a search.
pub mod HasTarget
pub mod IsOrder
pub mod IsCircle
pub mod Searched
