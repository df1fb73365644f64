pub mod Meaning
pub mod Fields
