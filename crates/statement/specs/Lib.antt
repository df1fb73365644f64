pub mod Room
pub mod Pieces
pub mod Meaning
