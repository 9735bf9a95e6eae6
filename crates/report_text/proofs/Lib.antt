pub mod WrittenLines
pub mod LeafLines
mod BlockNames
pub mod Comments
pub mod CommentLines
-- Passed on to the crates above: from_NAME is all that the crate NAME has in its folder of this name.
pub use Rattle.contraction.proofs as from_contraction
