pub mod Findings
pub mod Equality
pub mod Compared
