pub mod Lists
pub mod Totals
pub mod Options
pub mod Pigeons
pub mod Truths
pub mod Numbers
pub mod Places
pub mod Cuts
