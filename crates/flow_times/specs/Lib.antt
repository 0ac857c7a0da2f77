pub mod Moments
pub mod Flows
pub mod Cuts
pub mod Passes
pub mod Ends
pub mod Metered
