-- What no clause of `run` reads yet: the designs of circuits, and what their sources mean by paths.
-- The designs of modules over their ground leaves.
pub mod CircuitDesigns
-- What the tree of a source's modules stores, by paths.
pub mod SourceLaws
-- What gives its leaves their values.
pub mod SameRoles
-- Its settled values, and what it allows.
pub mod MeaningLaws
pub mod SourceRuns
pub mod CircuitMeanings
-- Its state stands once.
pub mod StateOnce
