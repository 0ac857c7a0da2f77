pub mod Openings
pub mod Options
pub mod Memory
pub mod FirstPairs
pub mod Chains
