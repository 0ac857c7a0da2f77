pub mod Played
pub mod Hands
pub mod Told
pub mod Plays
