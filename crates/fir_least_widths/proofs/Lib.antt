pub mod Terms
pub mod NotedReaders
pub mod WaitingMarks
pub mod Risen
pub mod RisesLeft
pub mod Looks
pub mod RoundLooks
