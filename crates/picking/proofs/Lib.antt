pub mod Climbs
pub mod Matches
pub mod Ranks
pub mod Replays
pub mod Rises
pub mod Tables
