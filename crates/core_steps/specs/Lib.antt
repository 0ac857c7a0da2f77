pub mod Values
pub mod Endings
pub mod Insides
pub mod Steps
pub mod Moments
