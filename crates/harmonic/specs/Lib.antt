pub mod Walks
pub mod Calls
