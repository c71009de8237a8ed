pub mod Asks
pub mod Leasts
pub mod Turns
pub mod Climbing
pub mod Levels
pub mod Unreached
pub mod Stars
