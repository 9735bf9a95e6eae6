pub mod Failures
pub mod Turns
pub mod WidestCuts
