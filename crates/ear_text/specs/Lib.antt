pub mod EarFormat
pub mod Writing
pub mod SoFar
-- Passed on to the crates above: from_NAME is all that the crate NAME has in its folder of this name.
pub use Rattle.ear_core.specs as from_ear_core
