-- What no clause of `run` reads: the numbers and bounds of a circuit, and the spots where faults of widths may stand.
pub mod Numbered
pub mod Meetings
pub mod Spots
pub mod NumberedLeaves
pub mod SpotFaults
pub mod Scenes
pub mod Ports
pub mod Walks
pub mod Circuits
pub mod PushedLeaves
pub mod Operands
pub mod Choices
pub mod FirstLeaves
