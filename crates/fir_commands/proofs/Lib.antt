pub mod Refused
pub mod TextEnded
pub mod TextsComplete
pub mod Printed
pub mod SimRan
pub mod SimMade
pub mod SimLaws
