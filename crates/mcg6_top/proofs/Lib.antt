pub mod Ended
pub mod OneOutput
pub mod Skipping
pub mod AlikeOutputs
pub mod OneOutcome
pub mod LaterLines
pub mod Splits
pub mod ListsExist
pub mod Reported
-- Passed on to the crates above: from_NAME is all that the crate NAME has in its folder of this name.
pub use Rattle.mcg6_reader.proofs as from_mcg6_reader
