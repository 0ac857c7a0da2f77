pub mod Crowds
pub mod Suffice
