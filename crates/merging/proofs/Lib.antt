pub mod Shares
pub mod Picks
pub mod Walking
pub mod Steps
pub mod Pairs
pub mod Commons
pub mod Exchanged
