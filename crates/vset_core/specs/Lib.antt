pub mod Words
pub mod WordLaws
pub mod WordBack
pub mod Floods
-- Passed on to the crates above: from_NAME is all that the crate NAME has in its folder of this name.
pub use Rattle.counting.specs as from_counting
