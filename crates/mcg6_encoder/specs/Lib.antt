pub mod SimpleGraphs
pub mod Files
pub mod Reads
-- Passed on to the crates above: from_NAME is all that the crate NAME has in its folder of this name.
pub use Rattle.outside.specs as from_outside
