pub mod Playing
pub mod Does
