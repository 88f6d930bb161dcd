-- What no clause of `run` reads: contracts between layers, laws, views of the code and its states.
pub mod Held
pub mod Operands
pub mod Texts
pub mod ArrayTexts
pub mod Places
pub mod Walks
pub mod Blocks
pub mod ArrayBlocks
pub mod Built
pub mod BlockRegisters
pub mod Builds
pub mod Laws
