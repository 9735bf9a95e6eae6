pub mod TextSoFar
pub mod EarsReadBack
pub mod EarsRead
-- Passed on to the crates above: from_NAME is all that the crate NAME has in its folder of this name.
pub use Rattle.ear_core.proofs as from_ear_core
