pub mod Links
pub mod Tables
