pub mod Small
pub mod Subsets
pub mod Cuts
pub mod Parts
pub mod EdgeFaults
