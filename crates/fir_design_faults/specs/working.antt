-- What no clause of `run` reads: laws of clocks, of the clocks of memories, and of what live statements of designs read.
pub mod SameDriveReads
pub mod SameClockFaults
pub mod SameMemoryClocks
pub mod MemoryFaults
pub mod SameMemoryFaults
