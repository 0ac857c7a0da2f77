pub mod NumberLemmas
pub mod TextLemmas
pub mod NumberLaws
pub mod BindLemmas
pub mod HexLaws
pub mod Feeds
pub mod Scan
