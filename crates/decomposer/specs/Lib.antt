pub mod Choices
pub mod Orders
pub mod Picked
pub mod VisitedPlaces
pub mod Common
