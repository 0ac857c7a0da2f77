pub mod Asked
pub mod FlowOrders
pub mod Parts
pub mod ClassOrders
