pub mod Plans
pub mod Codes
pub mod Words
pub mod Steps
pub mod Goes
pub mod Worlds
pub mod Bounds
pub mod Laws
