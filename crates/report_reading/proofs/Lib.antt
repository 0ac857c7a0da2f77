pub mod PacketLemmas
pub mod AnswerLemmas
mod CountLemmas
pub mod EntryLemmas
pub mod HoldLemmas
pub mod StepLemmas
pub mod PlaceLemmas
pub mod SessionLemmas
pub mod TailLemmas
pub mod KeptLemmas
pub mod ReadingLemmas
