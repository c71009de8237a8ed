pub mod Raises
pub mod Gains
pub mod Counts
pub mod Thinning
pub mod Wraps
