pub mod Gaps
pub mod Caller
pub mod GapsLemmas
