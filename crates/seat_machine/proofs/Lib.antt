pub mod RowLemmas
pub mod PrefixLemmas
pub mod Taking
pub mod LoadLemmas
pub mod PutLemmas
pub mod ChangeLemmas
pub mod RowsLoaded
