pub mod ChoicesAt
pub mod KindsFound
pub mod Picking
