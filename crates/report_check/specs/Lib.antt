pub mod Ready
pub mod Places
pub mod Judged
pub mod Facts
pub mod Whole
