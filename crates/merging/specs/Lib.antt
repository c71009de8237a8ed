pub mod Shared
pub mod Calls
pub mod Merging
