pub mod Lists
mod Fronts
mod Loads
mod GlanceLemmas
mod ReaderLemmas
mod Learning
mod ZerosLemmas
pub mod Moves
pub mod Actions
mod AccessLemmas
pub mod StepLemmas
mod Parts
mod Seats
pub mod NewSeats
mod ClosedOrders
