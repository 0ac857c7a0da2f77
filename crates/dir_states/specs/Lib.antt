pub mod Views
pub mod Fit
pub mod Rooms
pub mod Cuts
pub mod Changes
pub mod Openings
