-- What no clause of `run` reads: contracts between layers, laws, views of the code and its states.
pub mod Shapes
pub mod ClosedWords
pub mod Readings
pub mod Laws
pub mod Places
pub mod Rooms
pub mod Steps
pub mod ClockLists
pub mod Numbers
pub mod InitWords
pub mod LineStarts
pub mod TickWords
pub mod Walks
pub mod WrittenWords
pub mod Fronts
pub mod CutLines
