pub mod Checked
pub mod Does
