pub mod Convex
pub mod Around
pub mod Swinging
pub mod Gaps
pub mod Windows
