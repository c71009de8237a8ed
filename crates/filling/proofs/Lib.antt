pub mod Rows
pub mod Counts
pub mod Times
pub mod Lists
