pub mod Meaning
pub mod Offers
pub mod Turns
pub mod Questions
