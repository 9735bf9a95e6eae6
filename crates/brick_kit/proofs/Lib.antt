pub mod EdgeSums
pub mod EndSums
pub mod SetSums
pub mod CutEnds
pub mod CoverBound
pub mod HeaviestMatchings
pub mod LoweredWeights
pub mod HeavyParts
pub mod Swaps
pub mod SwapSets
pub mod BestMatchings
pub mod OddPart
pub mod MetVertex
pub mod Duality
pub mod CutWeights
pub mod TightCovers
pub mod PairBounds
pub mod PairSeparations
pub mod ApartEdges
pub mod PartingShores
pub mod UncrossedLists
pub mod Crossings
pub mod PairsFromShores
pub mod Bricks
-- Passed on to the crates above: from_NAME is all that the crate NAME has in its folder of this name.
pub use Rattle.separation_kit.proofs as from_separation_kit
