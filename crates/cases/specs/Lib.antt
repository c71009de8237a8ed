pub mod Journals
pub mod Cases
