pub mod WordLemmas
pub mod LoopLemmas
pub mod LineLemmas
pub mod ItemLemmas
pub mod TakenLemmas
pub mod MarkLemmas
