pub mod Times
pub mod Takings
pub mod Makings
pub mod LayersCalls
