pub mod Reading
pub mod First
