-- What no clause of `run` reads yet: flat nets of circuits over their leaves.
pub mod FlatCircuits
pub mod FlatLaws
-- The parts of the terms that drive leaves have their types.
pub mod WholeTerms
pub mod WholeRoles
-- Closed walks of dependence.
pub mod FlatLoops
-- Inits that are no constants.
pub mod FlatInits
