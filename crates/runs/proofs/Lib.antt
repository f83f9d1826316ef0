pub mod Runs
mod Going
