pub mod Bytes
pub mod Answers
