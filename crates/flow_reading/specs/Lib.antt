pub mod Groups
pub mod Flows
