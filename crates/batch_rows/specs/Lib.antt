pub mod BatchRows
pub mod Counts
pub mod Demands
pub mod Depths
