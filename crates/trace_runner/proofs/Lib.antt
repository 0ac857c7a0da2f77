pub mod TrialWords
mod DoesLemmas
