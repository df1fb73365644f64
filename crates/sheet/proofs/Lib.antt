mod Three
mod Rounding
mod Products
pub mod Sums
