pub mod Starts
pub mod Comparing
pub mod Lines
pub mod Turns
pub mod Corners
pub mod Rings
