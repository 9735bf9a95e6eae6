pub mod Counts
pub mod Sets
pub mod Tests
pub mod Lists
pub mod Common
