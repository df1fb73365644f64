pub mod Meaning
pub mod Answer
pub mod Kind
pub mod Counted
pub mod Laid
