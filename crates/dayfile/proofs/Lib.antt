pub mod Listed
pub mod Parts
pub mod Few
pub mod Formed
