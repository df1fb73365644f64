pub mod Meaning
pub mod Legs
pub mod Moves
