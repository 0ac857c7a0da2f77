pub mod Made
pub mod Does
