pub mod Orders
pub mod OneByOne
pub mod PeekBounds
pub mod Fits
