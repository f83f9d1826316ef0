pub mod Reading
pub mod Least
pub mod Strips
pub mod Search
pub mod Grid
pub mod Levels
pub mod Steps
