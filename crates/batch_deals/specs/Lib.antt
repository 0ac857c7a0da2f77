pub mod Dealt
pub mod Opens
