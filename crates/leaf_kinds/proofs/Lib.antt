-- Passed on to the crates above: from_NAME is all that the crate NAME has in its folder of this name.
pub use Rattle.tight_cuts.proofs.from_separation_kit as from_separation_kit
