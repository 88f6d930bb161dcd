-- What no clause of `run` reads: where the modules of a design stand in its circuit, and laws about it.
pub mod Copies
pub mod CopyLaws
pub mod WholeDesigns
