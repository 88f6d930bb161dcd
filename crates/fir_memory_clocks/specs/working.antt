-- What no clause of `run` reads: contracts between layers.
-- Where the leaves end that a clock leaf is given as they are.
pub mod RoleRoots
pub mod Marks
-- The ports of a memory by their clocks, and the memories of a module.
pub mod PortClocks
pub mod ModuleMemories
pub mod HeldModules
-- The first of all modules of a design, and what is told of it.
pub mod FirstMemories
pub mod MemoriesTold
