pub mod LineLemmas
pub mod OrderLemmas
mod CountLemmas
mod DigitLemmas
