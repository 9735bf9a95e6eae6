pub mod DerivationLeaves
pub mod DerivationStands
pub mod DerivationShores
pub mod Shores
pub mod Sizes
pub mod TreePaths
pub mod CutsBelow
pub mod RotateSteps
pub mod SwitchSets
pub mod FewLeaves
pub mod KindsOfLeaves
pub mod AddedKinds
pub mod LeafPlaces
pub mod SingleVertices
pub mod QuotientSides
pub mod SeenGraphs
pub mod Common
-- Passed on to the crates above: from_NAME is all that the crate NAME has in its folder of this name.
pub use Rattle.contraction.proofs as from_contraction
