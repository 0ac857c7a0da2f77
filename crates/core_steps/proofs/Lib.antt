pub mod Follows
pub mod Begins
pub mod Kept
pub mod LogLemmas
pub mod Pendings
pub mod Opened
mod TestLemmas
