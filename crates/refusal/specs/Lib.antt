pub mod Numbers
pub mod Meanings
pub mod Rules
