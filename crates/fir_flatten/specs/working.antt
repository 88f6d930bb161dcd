-- What no clause of `run` reads: contracts between layers.
pub mod Words
-- What the code has of a circuit.
pub mod CircuitParts
-- The net of a design, whose modules have their own nets in it.
pub mod DesignNets
pub mod MovedNets
pub mod PutModules
pub mod DesignArrays
-- What is told of a leaf whose clock is not clear.
pub mod FirstIndices
pub mod LiveSites
pub mod ClockEvidence
pub mod ClearClocks
-- The first fault of clocks of a design.
pub mod ClockTold
pub mod FirstSites
-- The nodes that leaves need.
pub mod KeptNodes
-- The flat net: its leaves and their roles.
pub mod ArrayPorts
pub mod FlatRoles
pub mod FlatArrays
pub mod FlatDesigns
-- What it means, and which faults there are in place of it.
pub mod FlattensTo
pub mod FlatFaults
pub mod Laws
-- What it is made of.
pub mod DesignParts
