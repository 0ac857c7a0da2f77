pub mod AskedKeys
pub mod CallLists
pub mod FlowOrders
pub mod Parts
pub mod ClassOrders
