pub mod Numbers
pub mod Outcomes
pub mod Tries
pub mod Coming
mod Ends
pub mod WeighedPlays
pub mod EndedPlays
pub mod BegunPlays
