pub mod Pieces
pub mod Splices
pub mod Cubic
pub mod Growth
pub mod Growing
pub mod Common
