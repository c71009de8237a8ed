pub mod Entries
pub mod Journal
pub mod Places
pub mod Calls
pub mod Listed
pub mod Tabled
