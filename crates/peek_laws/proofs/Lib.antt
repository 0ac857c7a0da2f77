pub mod OneWord
pub mod Current
pub mod Replies
pub mod Glances
