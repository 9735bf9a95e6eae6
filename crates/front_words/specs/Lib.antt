pub mod Texts
pub mod Saying
pub mod Showing
pub mod UnitsSeen
pub mod NodePlaces
pub mod Pieces
pub mod Faults
pub mod Reasons
pub mod Endings
pub mod NotText
pub mod Openings
pub mod LinesAt
pub mod Unread
pub mod EmptyLines
pub mod BadFiles
pub mod Messages
pub mod ListMessages
pub mod Usage
pub mod Programs
pub mod Answers
pub mod Unmatched
pub mod Shores
pub mod Notes
pub mod Uncovered
pub mod RefusedTrees
pub mod RefusedEars
pub mod Refused
-- Passed on to the crates above: from_NAME is all that the crate NAME has in its folder of this name.
pub use Rattle.refusals.specs as from_refusals
pub use Rattle.command_table.specs as from_command_table
