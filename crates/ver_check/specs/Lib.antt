pub mod FaultForms
pub mod ItemFaults
pub mod OperandFaults
pub mod Scopes
pub mod SideFaults
pub mod TreeFaults
pub mod working
