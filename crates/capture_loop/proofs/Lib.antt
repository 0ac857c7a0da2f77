pub mod LeavesLemmas
pub mod LoopLemmas
pub mod PacketLemmas
pub mod ReadingLemmas
pub mod ServingLemmas
pub mod StandingLemmas
