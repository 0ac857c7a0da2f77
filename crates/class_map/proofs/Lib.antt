pub mod CountLemmas
pub mod AnswerLemmas
pub mod RowLemmas
pub mod PairLemmas
