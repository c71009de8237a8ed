pub mod Calls
pub mod Takings
