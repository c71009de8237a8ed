pub mod Calls
pub mod Neighbours
pub mod Peaks
pub mod Rows
