pub mod Rows
mod Moved
pub mod FourMoves
