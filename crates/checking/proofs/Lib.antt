pub mod Headers
pub mod Compare
pub mod Repeats
pub mod Tested
