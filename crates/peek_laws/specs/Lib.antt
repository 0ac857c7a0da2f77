pub mod Peeks
pub mod Glances
