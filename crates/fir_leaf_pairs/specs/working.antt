-- What no clause of `run` reads yet: the leaves that connects pair, and the statements that drive them.
pub mod TargetNames
pub mod Reads
pub mod Pairing
pub mod PairNumbers
pub mod Drives
