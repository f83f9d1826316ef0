pub mod Least
pub mod Reading
mod Grid
mod Kept
mod Rows
mod Scans
mod Standing
mod Lists
mod Depths
