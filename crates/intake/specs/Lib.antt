pub mod Ranges
pub mod Checks
pub mod Room
pub mod Members
pub mod Rosters
pub mod Parties
pub mod Books
