pub mod Calls
pub mod Did
pub mod Verdicts
pub mod Distance
