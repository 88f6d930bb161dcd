-- What no clause of `run` reads yet: terms of a net, and what drives each leaf.
pub mod NetTerms
pub mod NetValues
pub mod NetReads
pub mod Lowered
pub mod Drivers
pub mod LoweredLaws
pub mod DriverLaws
pub mod NetRoles
pub mod MovedTerms
pub mod CircuitModules
pub mod RoleLaws
