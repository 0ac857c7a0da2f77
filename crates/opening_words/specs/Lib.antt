pub mod Written
pub mod Rooms
pub mod Openers
