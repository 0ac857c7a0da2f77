pub mod Asked
pub mod Good
