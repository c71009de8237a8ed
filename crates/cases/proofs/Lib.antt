pub mod Sweep
pub mod Drops
pub mod Compute
pub mod Cases
