pub mod Lists
pub mod Moves
pub mod Calls
pub mod Parts
pub mod Gathering
pub mod Closed
mod About
