pub mod Sessions
pub mod Ending
