pub mod FlagReads
pub mod FilledRows
pub mod FilledWalk
pub mod TakenWords
pub mod PlainWords
pub mod NamedWords
pub mod PlainNames
pub mod VerilogNames
pub mod Numbers
mod CommandRows
