pub mod Packets
pub mod Answers
pub mod Entries
pub mod Steps
pub mod Kept
