pub mod Counts
pub mod Work
