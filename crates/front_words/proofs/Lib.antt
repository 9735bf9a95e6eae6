pub mod WritesJoined
pub mod Sayings
pub mod ShownBytes
pub mod SaidPieces
pub mod OtherShores
pub mod OpeningNotes
