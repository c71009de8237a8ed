pub mod Listed
pub mod Layings
