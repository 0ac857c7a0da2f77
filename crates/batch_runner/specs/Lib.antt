pub mod Served
pub mod Seats
pub mod Opened
pub mod Printed
pub mod Promises
pub mod Told
pub mod Totals
