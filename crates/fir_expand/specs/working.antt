-- What no clause of `run` reads yet: the cost of a circuit, as it is counted.
pub mod CostLaws
pub mod OwnCosts
pub mod OwnSums
pub mod Costing
pub mod CostsByNumber
