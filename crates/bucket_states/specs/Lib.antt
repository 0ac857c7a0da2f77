pub mod Items
pub mod Places
pub mod States
pub mod Change
pub mod Halves
pub mod Parts
pub mod Laws
pub mod Values
