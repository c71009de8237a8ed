pub mod Peeling
pub mod Recounts
