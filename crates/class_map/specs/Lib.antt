pub mod ClassCounts
pub mod Held
pub mod Rows
pub mod Pairs
