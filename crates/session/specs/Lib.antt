pub mod Meaning
pub mod Opening
pub mod Closing
pub mod Statements
