pub mod Refusals
pub mod Places
pub mod Neighbours
pub mod IndexCalls
pub mod Fronts
pub mod Turned
pub mod Peaks
pub mod Lays
