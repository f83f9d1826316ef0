pub mod Evens
pub mod Meaning
pub mod Squares
