mod Cuts
mod Passes
mod Ends
mod Sums
pub mod Tests
pub mod Meters
pub mod Steps
pub mod Sweeps
mod Parts
mod KeyParts
mod AllSums
pub mod Orders
mod Fronts
pub mod Filters
