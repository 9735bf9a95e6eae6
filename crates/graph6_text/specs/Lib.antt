pub mod Checks
pub mod Digits
pub mod Pairs
pub mod Reading
pub mod Writing
pub mod Common
