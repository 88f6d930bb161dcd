-- What no clause of `run` reads: which leaves are covered, which are driven, and the choice that is told of one that is not.
pub mod Covering
pub mod FlagChanges
pub mod DrivenFlags
pub mod CoverWalks
pub mod Missed
pub mod ChoiceLaws
pub mod Indices
pub mod MissWalks
