pub mod Logs
pub mod Rooms
pub mod Lines
pub mod Threads
pub mod Shares
pub mod Room
pub mod OneSeat
