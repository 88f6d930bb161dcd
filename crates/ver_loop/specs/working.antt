-- What no clause of `run` reads: the law about closed walks, and contracts between layers.
pub mod Loops
pub mod Laws
pub mod Rounds
