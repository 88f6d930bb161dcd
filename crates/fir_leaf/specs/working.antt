-- What no clause of `run` reads yet: what circuits over ground leaves mean.
-- The choice that values make, and what leaves depend on.
pub mod ValueChoices
pub mod ChoiceLaws
-- What the tree of a module means by paths, and that the numbers mean the same.
pub mod LeafLaws
pub mod Standing
pub mod LeafNumbers
pub mod TableLaws
-- The design below a main module, and its one list of leaves.
pub mod DesignStates
pub mod SoundDesigns
pub mod NamedDesigns
pub mod DesignLaws
pub mod StateLaws
-- Its values, ticks and runs.
pub mod CircuitStores
pub mod ClockRoots
pub mod RunLaws
-- Its faults.
pub mod ClockFaults
pub mod ModuleCircuits
pub mod MemoryClockFaults
pub mod InitFaults
pub mod FaultLaws
-- What the nodes and statements of the code stand for.
pub mod Nodes
pub mod NodeBlocks
