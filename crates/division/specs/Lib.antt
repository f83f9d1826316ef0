pub mod Costs
pub mod Divisions
pub mod Rounds
pub mod Trails
pub mod Tables
pub mod Fillings
pub mod Divide
