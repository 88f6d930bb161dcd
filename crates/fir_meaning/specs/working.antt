-- What no clause of `run` reads: contracts between layers, laws, views of the code and its states.
pub mod Values
pub mod NameGroups
pub mod WidthGroups
pub mod Scenes
-- The stages of a circuit that have its tree.
pub mod Stages
-- What the statements of a module's tree store, by paths.
pub mod TreeValues
pub mod TreeStores
-- The same over numbered leaves, which the code is proved against.
pub mod Terms
pub mod TermValues
pub mod TermReads
pub mod LeafBlocks
pub mod FieldSizes
pub mod Targets
pub mod LeafPairs
pub mod Leafed
pub mod LeafedBlocks
pub mod LeafModules
pub mod LeafMemories
pub mod LeafedModules
pub mod Choices
pub mod LeafCircuits
pub mod LeafStates
pub mod Designs
pub mod DesignPaths
pub mod DesignStores
pub mod Numberings
pub mod FlatDesigns
pub mod FlatLeaves
pub mod StateWalks
pub mod Flattened
pub mod Memories
pub mod LeafSettled
pub mod LeafNext
pub mod LeafAllows
pub mod Elaborated
-- Laws of names, types and widths.
pub mod NameLaws
pub mod TypeNumbers
pub mod WellTyped
pub mod TypeLaws
pub mod InferredTypes
pub mod WidthLaws
pub mod AssignedWidths
-- The leaves that nothing drives, over numbered leaves (E24).
pub mod UndrivenChoices
pub mod UndrivenLeaves
pub mod UndrivenGroup
-- The closed walks of dependence over numbered leaves (E28).
pub mod Dependence
pub mod CircuitDependence
pub mod LeafNames
pub mod LoopFaults
