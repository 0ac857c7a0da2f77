pub mod Going
pub mod Starts
pub mod Desks
pub mod Items
pub mod Updates
pub mod Writes
pub mod Seats
pub mod Sweeps
