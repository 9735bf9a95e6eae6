pub mod Beneath
pub mod ReadsSoFar
pub mod Encodings
pub mod OneEncoding
pub mod TakenBytes
