mod Dirt
mod WritingLemmas
mod ClearingLemmas
mod SetupLemmas
