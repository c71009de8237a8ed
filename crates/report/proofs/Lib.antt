pub mod Decimal
pub mod Lengths
pub mod Cuts
pub mod Examples
