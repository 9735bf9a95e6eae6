pub mod NameLists
pub mod TextSoFar
pub mod Edges
pub mod VersionOneReadBack
pub mod NamedReadBack
pub mod PlainNames
pub mod Versions
