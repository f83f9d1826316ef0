pub mod Numerals
pub mod Grammar
pub mod Lines
pub mod Passing
