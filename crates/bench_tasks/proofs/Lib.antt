pub mod TextReads
pub mod AnswersMade
pub mod SizesCarried
-- Passed on to the crates above: from_NAME is all that the crate NAME has in its folder of this name.
pub use Rattle.grow_gen.proofs as from_grow_gen
pub use Rattle.decomposer.proofs as from_decomposer
pub use Rattle.ear_text.proofs.from_ear_core as from_ear_core
