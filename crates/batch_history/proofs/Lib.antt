pub mod Cuts
pub mod GoneOn
pub mod OneOrder
pub mod AddedCounts
