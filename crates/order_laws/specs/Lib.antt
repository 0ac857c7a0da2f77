pub mod KeyOrder
