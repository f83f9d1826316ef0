pub mod Rounds
pub mod Filling
pub mod Calls
