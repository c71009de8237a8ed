pub mod Copying
pub mod WayIn
pub mod Told
pub mod Everyone
pub mod Vouches
