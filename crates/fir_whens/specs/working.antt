-- What no clause of `run` reads: what is found of a module.
pub mod ModuleFaults
pub mod CoveredModules
-- The nets of modules.
pub mod StandingRoles
pub mod ModuleNets
pub mod NetCircuits
