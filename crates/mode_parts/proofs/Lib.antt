pub mod CallingLemmas
pub mod CallLemmas
pub mod FittingCalls
pub mod GoodCalls
pub mod ExactLemmas
pub mod PileLemmas
pub mod EdgeLemmas
