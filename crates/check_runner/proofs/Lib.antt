mod CheckLemmas
pub mod DoesLemmas
