-- What no clause of `run` reads: the texts of the paths of leaves.
pub mod DeclaredNames
pub mod TypePaths
pub mod FieldsOfLeaves
pub mod DeclaredLeaves
pub mod TextsOfLeaves
pub mod TextsOfArrays
pub mod WordTexts
