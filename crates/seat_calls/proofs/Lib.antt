pub mod RunLemmas
pub mod DeskLemmas
pub mod OpsLemmas
pub mod RowLemmas
pub mod DirectoryLemmas
pub mod LoadLemmas
pub mod PutLemmas
pub mod LeafLemmas
pub mod ItemLemmas
pub mod SeatLemmas
mod ExchangeLemmas
