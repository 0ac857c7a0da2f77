pub mod OwnRows
