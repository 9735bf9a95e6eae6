pub mod Ends
pub mod Floods
pub mod Halves
pub mod Lowest
pub mod Sizes
pub mod SingleBits
pub mod Words
-- Passed on to the crates above: from_NAME is all that the crate NAME has in its folder of this name.
pub use Rattle.counting.proofs as from_counting
