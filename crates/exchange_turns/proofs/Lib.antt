pub mod CallLists
pub mod SeatUpdates
pub mod Turns
