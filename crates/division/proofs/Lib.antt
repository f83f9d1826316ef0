pub mod Costs
mod Keys
pub mod Snoc
pub mod Cuts
pub mod Tallies
pub mod Rounds
pub mod Trails
pub mod Divisions
pub mod Places
pub mod Tables
pub mod Fillings
pub mod Divide
