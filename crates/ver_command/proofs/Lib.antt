pub mod Refused
pub mod Printed
pub mod VsimRan
pub mod VsimLaws
