-- What no clause of `run` reads: views of the code's table of types.
pub mod Saturated
pub mod Tables
pub mod Reads
pub mod Fits
pub mod Adding
pub mod Found
pub mod Lefts
pub mod Meetings
pub mod Made
pub mod Wanted
pub mod First
