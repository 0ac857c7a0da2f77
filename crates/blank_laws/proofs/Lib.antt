pub mod Exchanges
pub mod Others
pub mod Opened
