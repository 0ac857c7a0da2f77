pub mod Programs
pub mod Stages
pub mod View
pub mod Room
pub mod Stands
pub mod Steps
pub mod Puts
