pub mod Degrees
pub mod Places
pub mod Sets
