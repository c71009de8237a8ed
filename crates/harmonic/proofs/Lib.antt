pub mod Sides
pub mod Tables
pub mod Lowering
pub mod Turns
pub mod Walking
pub mod Telling
pub mod Readings
pub mod HarmonicCalls
