pub mod ByKeyLists
pub mod ByKeyHeld
pub mod ByKeyLooks
pub mod ByKeyFree
