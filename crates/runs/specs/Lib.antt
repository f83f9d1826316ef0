pub mod Runs
pub mod Sessions
