pub mod ListedModules
pub mod ModuleLeaves
pub mod ReadsBelow
pub mod PortReads
pub mod LeavesBeside
pub mod InitWalks
pub mod DesignDependence
