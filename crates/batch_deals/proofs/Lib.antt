pub mod Deals
pub mod Opens
pub mod Shallow
