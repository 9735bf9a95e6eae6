pub mod Commands
pub mod Asked
pub mod Listings
pub mod Statuses
pub mod Outcomes
pub mod AlikeOutputs
pub mod Splits
pub mod Encodings
pub mod Common
pub mod Runs
pub mod Installed
-- Passed on to the crates above: from_NAME is all that the crate NAME has in its folder of this name.
pub use Rattle.mcg6_lines.specs.from_decomposer as from_decomposer
pub use Rattle.mcg6_lines.specs as from_mcg6_lines
pub use Rattle.mcg6_reader.specs as from_mcg6_reader
