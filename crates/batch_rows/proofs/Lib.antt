pub mod KeyLemmas
pub mod OrderLemmas
pub mod CountLemmas
pub mod DepthLemmas
pub mod RowLemmas
pub mod CalmLemmas
pub mod AlikeLemmas
pub mod Lesser
