pub mod Rings
pub mod Rows
pub mod Opening
