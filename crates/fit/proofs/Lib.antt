mod Kept
mod Sound
