pub mod Rooms
pub mod Threads
