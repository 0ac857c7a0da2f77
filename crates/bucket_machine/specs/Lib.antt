pub mod HashedKeys
pub mod Rows
