pub mod AnswerLists
pub mod CountLists
pub mod SeatCalls
