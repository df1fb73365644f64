pub mod Same
pub mod Tables
mod Lapsing
pub mod Empty
