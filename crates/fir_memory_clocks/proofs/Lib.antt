-- Walks from leaf to leaf by roles, and their marks.
pub mod RoleWalks
pub mod MarkedLeaves
pub mod PortSearch
-- Clocks of modules, in their nets and by the definitions.
pub mod OneDrivers
pub mod ClockTerms
pub mod RootsOfModules
-- Memories, ports and copies one by one.
pub mod FoundMemories
pub mod FoundModules
pub mod SitesOfCopies
-- From the copies of a design to its source.
pub mod MemoryPlaces
pub mod NamesOfScenes
pub mod OneScene
pub mod PrefixedPaths
pub mod PathsOfCopies
pub mod CopiesOfTrees
pub mod ToldMemories
pub mod FaultsAtSites
