-- What no clause of `run` reads: laws of what a circuit's source means.
-- Which leaves statements leave as they are.
pub mod SparedLeaves
pub mod TreeStatements
-- Connects, invalids and whens.
pub mod ConnectLaws
pub mod WhenLaws
pub mod PickLaws
-- Narrower and wider values, and how deep in whens a leaf is declared.
pub mod FitLaws
pub mod DepthLaws
-- Instances.
pub mod InstanceLaws
pub mod PortLaws
pub mod ModuleLaws
pub mod TreeLaws
pub mod PlaceLaws
-- The state of a design, behind a tick and before it.
pub mod StateWords
-- What registers are declared as, and what they hold and show.
pub mod DeclaredRegisters
pub mod RegisterLaws
-- Memories: what their ports do, what their words become, and what is read of them.
pub mod MemoryLeaves
pub mod MemoryPorts
pub mod MemoryPortLaws
pub mod WriteLaws
pub mod ReadLaws
-- What is kept over many ticks.
pub mod RunLaws
