pub mod Again
pub mod Comparing
pub mod Equality
pub mod FindingCalls
