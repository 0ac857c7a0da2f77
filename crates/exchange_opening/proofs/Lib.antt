pub mod OpeningWords
pub mod Chains
pub mod FirstPairs
