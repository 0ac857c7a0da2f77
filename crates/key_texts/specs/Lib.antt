pub mod FlowText
pub mod Inserts
