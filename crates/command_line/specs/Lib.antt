pub mod Command
pub mod Texts
pub mod Plays
pub mod Words
pub mod CommandLines
