pub mod GraphLines
pub mod VersionOne
pub mod SoFar
pub mod Writing
pub mod Names
pub mod EitherVersion
pub mod Common
