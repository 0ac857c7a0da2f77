pub mod Lists
pub mod Orders
pub mod Named
pub mod OneBatch
pub mod AllBatches
mod FrameLemmas
mod SeatLemmas
mod MergeLemmas
mod CountLemmas
mod LineLemmas
mod BatchLemmas
mod KeptLemmas
mod JobLemmas
mod OpenedLemmas
pub mod DoesLemmas
