pub mod DealtLists
pub mod GoingLemmas
pub mod BlockLemmas
pub mod AnswersServed
pub mod BatchLemmas
pub mod RestLemmas
pub mod ToldLemmas
pub mod HandLemmas
pub mod NewLemmas
pub mod OpenLemmas
pub mod JobAtRest
pub mod CloseLemmas
pub mod EndLemmas
mod ShareLemmas
pub mod DoesLemmas
mod WayLemmas
mod PlaceLemmas
