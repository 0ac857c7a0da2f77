pub mod Programs
pub mod Worlds
pub mod Slots
pub mod Ends
pub mod Skipped
pub mod PlayedBySlots
