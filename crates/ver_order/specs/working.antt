-- What no clause of `run` reads: steps, rounds and edges in any order, and laws about them.
pub mod Rounds
pub mod Arranged
pub mod Edges
pub mod Laws
