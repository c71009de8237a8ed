pub mod Counted
pub mod Itself
pub mod Writer
