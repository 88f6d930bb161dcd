-- What no clause of `run` reads: the widths of leaves by their numbers, and the leaves of an expression.
pub mod FlatWidths
pub mod StandingWidths
pub mod Sides
pub mod DeclaredWidths
pub mod Fitting
pub mod CountedLeaves
pub mod FieldsAt
